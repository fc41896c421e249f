pub mod Resolution
pub mod Dependencies
