pub mod State
pub mod Within
pub mod Words
pub mod Nests
pub mod Reading
