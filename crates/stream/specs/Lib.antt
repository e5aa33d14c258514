pub mod Streams
pub mod Decoder
pub mod Left
pub mod Encoder
