pub use Rattle.affected_sizes.specs.affected_law
pub use Rattle.affected_sizes
pub use Rattle.recheck_law
pub mod Ways
pub mod Sets
