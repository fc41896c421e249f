pub mod Drawing
pub mod Leaving
pub mod Rounds
