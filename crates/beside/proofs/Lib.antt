pub mod Crossing
pub mod Done
pub mod Moments
pub mod Moving
pub mod Served
pub mod Uses
