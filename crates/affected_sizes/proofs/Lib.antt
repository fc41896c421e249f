pub mod Telling
pub mod Lists
pub mod Deciding
pub mod Same
pub mod Polls
pub mod Sizes
pub mod Coding
pub mod Reached
