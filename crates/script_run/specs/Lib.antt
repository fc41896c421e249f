pub use Rattle.beside.specs.affected_sizes
pub use Rattle.beside
pub use Rattle.beside.specs.edited_root
pub mod Checked
pub mod Transcript
pub mod Steps
pub mod Session
