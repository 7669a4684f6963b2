pub mod Lists
pub mod InLists
