pub mod Nodes
pub mod Linking
pub mod Jobs
pub mod Views
pub mod Telling
