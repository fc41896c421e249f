pub mod Listed
pub mod Whole
pub mod OwnPath
pub mod Named
