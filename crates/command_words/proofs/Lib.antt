pub mod Exact
pub mod Numerals
pub mod Pieces
pub mod Slots
pub mod Walks
