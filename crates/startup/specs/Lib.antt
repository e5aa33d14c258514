pub mod Laws
pub mod Startup
