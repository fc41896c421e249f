pub mod Reserved
pub mod Whole
