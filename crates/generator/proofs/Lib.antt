pub mod Imported
pub mod Lines
pub mod Paths
