pub mod Designations
pub mod ByWord
pub mod Found
