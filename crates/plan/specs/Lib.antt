pub mod Costs
pub mod Plan
