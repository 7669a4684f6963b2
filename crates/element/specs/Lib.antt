pub mod Start
pub mod Element
pub mod Meant
