pub mod Stores
pub mod Listing
