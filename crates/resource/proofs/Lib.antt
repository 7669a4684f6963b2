pub mod Conversions
pub mod Writing
pub mod Reading
