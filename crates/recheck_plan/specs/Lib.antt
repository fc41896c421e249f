pub mod Affected
pub mod Marks
pub mod Differing
pub mod Walk
