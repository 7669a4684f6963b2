pub mod Refusals
pub mod Quick
