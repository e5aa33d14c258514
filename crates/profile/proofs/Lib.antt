pub mod Sizes
pub mod Puts
pub mod Left
pub mod Again
