pub mod Text
pub mod Functions
