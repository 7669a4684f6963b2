pub mod Filled
pub mod Ready
pub mod Equal
pub mod Found
