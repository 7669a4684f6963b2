pub mod Lies
