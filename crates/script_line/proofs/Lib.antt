pub mod Commanding
pub mod Deciding
pub mod Nothing
pub mod Questions
