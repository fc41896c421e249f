pub mod World
pub mod Seen
pub mod Stands
