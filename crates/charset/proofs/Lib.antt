pub mod Laws
pub mod Lookup
