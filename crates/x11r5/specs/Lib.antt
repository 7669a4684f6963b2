pub mod Reading
pub mod Writing
pub mod Records
pub mod Theorems
pub mod Outcome
pub mod Examples
