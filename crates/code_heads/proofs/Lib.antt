pub mod Empties
pub mod Marks
pub mod NameEnds
