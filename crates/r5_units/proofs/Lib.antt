pub mod Refusals
pub mod Text
