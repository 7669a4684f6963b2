pub mod Stowed
