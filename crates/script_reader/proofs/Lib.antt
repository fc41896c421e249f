pub mod Joins
pub mod Windows
