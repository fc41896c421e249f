pub mod Following
pub mod Ways
pub mod Returning
pub mod Wanted
