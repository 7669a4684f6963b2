pub mod Step
pub mod Reader
