pub mod View
pub mod Only
