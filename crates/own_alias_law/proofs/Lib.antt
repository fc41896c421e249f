pub mod Rows
pub mod Renamed
pub mod Trees
pub mod Signed
pub mod Own
