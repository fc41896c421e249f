pub mod Ways
pub mod Sets
