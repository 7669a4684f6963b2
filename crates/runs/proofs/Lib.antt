pub mod Steps
pub mod InOrder
pub mod Table
