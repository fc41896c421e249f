pub mod Following
pub mod Walking
