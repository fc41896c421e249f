pub use Rattle.job_seats.specs.analyst
pub use Rattle.job_seats.specs.work_shares
pub mod Together
pub mod Tying
pub mod Adding
