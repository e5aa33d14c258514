pub mod Bus
pub mod Sequence
