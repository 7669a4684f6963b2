pub mod Cases
pub mod Filled
pub mod Promises
pub mod Within
pub mod Fills
pub mod Spanned
