pub mod View
pub mod Follows
pub mod Moves
