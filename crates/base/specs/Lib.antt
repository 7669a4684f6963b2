pub mod Refusal
pub mod Kind
pub mod Limit
pub mod Direction
pub mod Choice
pub mod Answers
pub mod Output
