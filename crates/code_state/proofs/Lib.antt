pub mod OpenForms
pub mod Views
pub mod Pushes
