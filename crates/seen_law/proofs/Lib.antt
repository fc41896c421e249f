pub mod Listed
pub mod Kept
pub mod Bound
pub mod Ruled
pub mod Reading
pub mod Items
