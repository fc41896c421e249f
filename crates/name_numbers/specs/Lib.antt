pub mod Looking
pub mod Numbering
