pub mod Clock
pub mod Named
