pub use Rattle.answers_law
pub use Rattle.payloads
pub use Rattle.payloads.specs.program_check
pub mod States
