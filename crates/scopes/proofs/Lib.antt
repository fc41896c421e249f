pub mod Stacks
pub mod Named
pub mod Heights
pub mod Kept
pub mod Walks
pub mod Meanings
pub mod Numbers
