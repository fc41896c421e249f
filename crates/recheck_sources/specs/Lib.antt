pub use Rattle.edited_root.specs.affected_law
pub use Rattle.edited_root
pub use Rattle.export_counts.specs.source_front
pub mod Parts
pub mod Keeping
pub mod Changed
