pub mod Ladder
pub mod Bools
pub mod Stores
