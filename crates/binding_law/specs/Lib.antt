pub mod Pieces
pub mod Ways
pub mod Scopes
pub mod Placed
