pub use Rattle.flow_values.specs.Path
pub use Rattle.flow_values.specs.PathForm
pub mod Calls
pub mod Causes
pub mod Outside
pub mod Program
pub mod Seen
