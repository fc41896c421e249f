pub mod Numbers
pub mod Standing
pub mod Whole
pub mod Gathered
pub mod Planning
pub mod Becoming
