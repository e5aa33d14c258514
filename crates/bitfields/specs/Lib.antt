pub mod Csr
pub mod Fr1
pub mod Acr
