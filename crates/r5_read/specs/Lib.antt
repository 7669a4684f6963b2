pub mod Listing
pub mod Stops
pub mod Look
