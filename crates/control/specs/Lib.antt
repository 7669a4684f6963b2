pub mod Mark
pub mod Escape
