pub mod Whole
pub mod Standing
pub mod Values
