pub mod Charsets
pub mod Finals
pub mod Pairs
