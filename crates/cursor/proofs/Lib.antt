pub mod Rules
pub mod Fits
pub mod Free
pub mod Quick
pub mod Marked
pub mod Turns
