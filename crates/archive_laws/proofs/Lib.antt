pub mod Passes
pub mod Turn
