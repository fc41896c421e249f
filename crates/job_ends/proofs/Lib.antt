pub mod Looked
pub mod Told
pub mod Lists
pub mod Ending
