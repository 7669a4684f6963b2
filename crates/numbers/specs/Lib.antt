pub mod Class
pub mod Size
pub mod Numbers
