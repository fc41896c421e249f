pub mod Literals
pub mod Cells
pub mod Properties
pub mod Narrowing
pub mod Known
