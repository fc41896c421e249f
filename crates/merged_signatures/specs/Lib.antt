pub mod Chains
pub mod Merged
pub mod Job
pub mod Reach
pub mod Repeats
pub mod Programs
pub mod Settled
pub mod Imports
