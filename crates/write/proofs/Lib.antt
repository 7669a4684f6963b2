pub mod Lists
pub mod Whole
pub mod Finishes
