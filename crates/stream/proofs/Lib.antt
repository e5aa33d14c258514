pub mod Streams
pub mod Steps
pub mod Rest
pub mod Lays
pub mod RoundTrip
