pub mod Coming
pub mod Unoffending
pub mod Turns
pub mod Whole
pub mod Redirected
