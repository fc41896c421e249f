pub mod Answering
pub mod Crossing
