pub mod Starts
pub mod Steps
pub mod Sizes
pub mod Pointed
pub mod Names
