pub mod Moves
pub mod Pattern
pub mod Ones
