pub mod Homes
pub mod Going
pub mod Whole
