pub mod Each
pub mod Printable
pub mod Once
