pub mod Clock
pub mod Frequency
pub mod Phase
pub mod Amplitude
