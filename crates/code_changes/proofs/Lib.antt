pub mod Telling
pub mod OwnNames
pub mod Lists
pub mod Sets
pub mod Parts
pub mod Views
pub mod Forms
