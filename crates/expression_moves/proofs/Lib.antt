pub mod Ways
pub mod Meeting
pub mod Rounds
pub mod Choosing
pub mod Operating
pub mod Stepping
pub mod Prefixing
