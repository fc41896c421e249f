pub mod ByName
pub mod FirstRows
pub mod Lists
