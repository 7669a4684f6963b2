pub mod Designation
