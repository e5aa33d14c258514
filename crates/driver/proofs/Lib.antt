pub mod Channels
pub mod Transfers
pub mod Begins
pub mod RegisterReads
