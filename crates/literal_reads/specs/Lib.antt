pub mod Accepting
pub mod Keys
pub mod View
