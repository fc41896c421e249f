pub mod Seen
pub mod Reaching
pub mod Signing
pub mod Leading
