pub use Rattle.local_signatures
pub use Rattle.merged_signatures
pub use Rattle.typing
pub mod Program
pub mod TopNames
pub mod Items
pub mod Errors
