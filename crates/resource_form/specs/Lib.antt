pub mod Form
pub mod Conversion
