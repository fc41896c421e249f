pub mod Dealing
pub mod Each
pub mod Telling
