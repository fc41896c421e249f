pub mod Handed
pub mod View
pub mod Positions
