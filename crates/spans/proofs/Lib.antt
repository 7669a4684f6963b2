pub mod Stood
