pub mod Law
pub mod Starts
pub mod Loops
pub mod Stretches
