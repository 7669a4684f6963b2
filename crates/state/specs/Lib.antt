pub mod Directions
pub mod State
pub mod Elements
