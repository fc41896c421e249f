pub mod Codes
pub mod Rows
pub mod FaultOrder
pub mod Roots
