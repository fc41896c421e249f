pub mod Lists
pub mod Names
pub mod Overlays
pub mod TransactionLaws
