pub use Rattle.check_job
pub use Rattle.check_job.specs.source_front
pub mod Full
pub mod Law
pub mod Status
