pub mod Below
pub mod Hands
pub mod Drawing
pub mod Dealt
pub mod Places
