pub mod Walks
pub mod Names
pub mod Bound
pub mod Small
pub mod Telling
pub mod Local
