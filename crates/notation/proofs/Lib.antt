pub mod Scans
pub mod Looks
pub mod Enough
pub mod Rows
