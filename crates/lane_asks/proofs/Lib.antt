pub mod Dealt
pub mod Idle
pub mod Places
pub mod Telling
pub mod Whole
