pub mod Backwards
pub mod Listed
pub mod Walks
