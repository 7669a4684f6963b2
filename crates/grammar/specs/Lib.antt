pub mod Units
pub mod Grammar
pub mod Reading
pub mod Records
