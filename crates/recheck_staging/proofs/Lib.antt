pub mod Changes
pub mod Fit
pub mod Kept
pub mod State
pub mod Steps
pub mod Versions
