pub mod Laws
pub mod SelfTest
