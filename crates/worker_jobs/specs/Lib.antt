pub use Rattle.tree_crossing
pub mod Checking
