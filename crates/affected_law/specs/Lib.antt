pub use Rattle.program_check.specs.check_job
pub use Rattle.program_check
pub use Rattle.program_check.specs.source_front
pub mod Affected
pub mod Kept
pub mod Law
pub mod Inside
pub mod Recheck
