pub mod Ladders
pub mod Ranks
