pub mod Texts
pub mod Decimal
