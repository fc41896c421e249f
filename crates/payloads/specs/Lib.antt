pub use Rattle.program_check.specs.check_job
pub use Rattle.program_check
pub use Rattle.program_check.specs.source_front
pub mod Entities
pub mod State
