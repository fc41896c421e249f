pub use Rattle.analyst
pub use Rattle.heap_answers.specs.answers_law
pub use Rattle.heap_answers
pub use Rattle.heap_answers.specs.payloads
pub mod Works
pub mod States
pub mod CheckedBy
