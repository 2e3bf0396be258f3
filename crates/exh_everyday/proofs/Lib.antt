pub mod Founds
pub mod Takings
