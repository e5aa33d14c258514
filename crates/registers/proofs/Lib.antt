pub mod Table
pub mod Widths
pub mod Fields
pub mod Bytes
pub mod Laid
pub mod Choice
pub mod Names
