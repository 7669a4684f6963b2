pub mod Least
pub mod Turns
pub mod Again
pub mod Units
pub mod Rest
