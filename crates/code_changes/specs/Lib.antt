pub mod View
pub mod Declaring
pub mod Seen
pub mod Walks
