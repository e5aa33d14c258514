pub mod Refusals
pub mod Registers
pub mod Fields
pub mod Bytes
