pub mod Words
pub mod Reaching
pub mod Choosing
pub mod Single
