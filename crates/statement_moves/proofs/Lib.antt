pub mod Sequels
pub mod Outsides
pub mod Entering
