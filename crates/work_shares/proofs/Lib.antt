pub mod Works
pub mod Sums
pub mod Shared
pub mod Rises
pub mod Counts
