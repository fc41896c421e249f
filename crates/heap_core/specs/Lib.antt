pub mod Meaning
pub mod Plain
pub mod PlainHeaps
pub mod PlainLaws
pub mod Transactions
