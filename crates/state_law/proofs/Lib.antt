pub mod Choices
pub mod Checks
