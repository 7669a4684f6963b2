pub mod Loops
pub mod Spans
