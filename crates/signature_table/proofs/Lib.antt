pub mod Placing
pub mod Aliases
