pub mod Operators
pub mod Members
pub mod Goals
pub mod View
