pub mod Turned
pub mod Beyond
pub mod Stays
