pub use Rattle.errors_by_reach
pub use Rattle.source_front.specs.js_tree
pub use Rattle.source_front
pub use Rattle.signature_table
pub mod Jobs
