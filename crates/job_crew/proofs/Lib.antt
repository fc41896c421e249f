pub mod Lists
pub mod Parts
pub mod Linked
pub mod Returned
pub mod Joining
pub mod Adding
pub mod Whole
