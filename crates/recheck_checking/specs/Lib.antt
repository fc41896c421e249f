pub use Rattle.edited_root.specs.affected_law
pub use Rattle.edited_root
pub use Rattle.edited_root.specs.payloads
pub use Rattle.recheck_merging.specs.tree_crossing
pub mod Keeping
pub mod Checking
pub mod Full
pub mod Right
