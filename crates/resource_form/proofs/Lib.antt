pub mod Steps
pub mod Readings
pub mod Theorems
pub mod Answers
pub mod Examples
