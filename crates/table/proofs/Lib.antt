pub mod Filled
pub mod Keeping
