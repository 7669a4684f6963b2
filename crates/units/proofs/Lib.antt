pub mod Turn
pub mod Records
pub mod Steps
pub mod Open
pub mod Directed
