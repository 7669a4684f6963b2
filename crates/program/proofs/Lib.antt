pub mod Whole
pub mod Promises
