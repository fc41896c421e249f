pub mod InOrder
pub mod Bindings
