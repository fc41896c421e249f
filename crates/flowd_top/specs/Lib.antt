pub mod Run
pub mod Statuses
