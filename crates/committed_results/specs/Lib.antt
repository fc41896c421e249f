pub use Rattle.full_law.specs.check_job
pub use Rattle.full_law
pub use Rattle.full_law.specs.program_check
pub use Rattle.recheck_staging
pub use Rattle.export_counts.specs.source_front
pub mod Held
