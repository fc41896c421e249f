pub mod Plans
pub mod View
