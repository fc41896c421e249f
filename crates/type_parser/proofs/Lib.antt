pub mod Nests
pub mod Pushes
pub mod Views
pub mod Empties
pub mod Single
pub mod Given
pub mod Within
pub mod Turns
