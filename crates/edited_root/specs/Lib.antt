pub use Rattle.affected_law
pub use Rattle.payloads
pub use Rattle.affected_law.specs.program_check
pub mod From
pub mod Reading
pub mod Walk
pub mod Numbering
