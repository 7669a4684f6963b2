pub mod Chosen
pub mod Row
pub mod Forward
pub mod Whole
