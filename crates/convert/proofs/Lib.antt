pub mod Rising
pub mod Steps
pub mod Achieved
pub mod Literals
