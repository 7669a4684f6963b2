pub mod Counted
pub mod Stops
pub mod Octets
