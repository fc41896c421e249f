pub mod Flags
pub mod Moved
