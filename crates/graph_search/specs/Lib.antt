pub mod Cycles
pub mod Reach
pub mod Components
pub mod Waves
pub mod Searching
pub mod Visiting
pub mod Grouping
pub mod Leveling
