pub mod Forms
pub mod Places
pub mod Stack
pub mod Turns
