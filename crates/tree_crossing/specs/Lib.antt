pub use Rattle.check_job
pub use Rattle.check_job.specs.source_front
