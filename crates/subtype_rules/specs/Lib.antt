pub mod Answer
pub mod Kept
pub mod Once
pub mod Terms
pub mod Firsts
