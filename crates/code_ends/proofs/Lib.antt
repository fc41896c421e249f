pub mod Given
pub mod Moved
pub mod Outsides
