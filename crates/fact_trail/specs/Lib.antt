pub mod Slots
pub mod Rows
pub mod Moments
pub mod Holding
pub mod Types
pub mod Room
pub mod Plans
pub mod Spares
