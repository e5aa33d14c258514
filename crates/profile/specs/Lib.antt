pub mod Serializer
pub mod Lent
