pub mod Meaning
pub mod Runs
pub mod Play
pub mod Sent
