pub mod Marks
pub mod Nests
pub mod Joins
pub mod Gathers
