pub use Rattle.module_errors.specs.local_signatures
pub use Rattle.module_errors
pub use Rattle.module_errors.specs.typing
pub mod Seen
pub mod Law
