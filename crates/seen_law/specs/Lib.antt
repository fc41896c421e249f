pub mod Reads
pub mod Innermost
