pub mod Answer
pub mod Listing
