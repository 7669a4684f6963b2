pub mod Records
pub mod Next
pub mod Directed
