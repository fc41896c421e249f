pub mod Signed
pub mod Seen
pub mod Reached
