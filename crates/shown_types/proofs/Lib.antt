pub mod Characters
pub mod Types
