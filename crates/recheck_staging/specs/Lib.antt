pub use Rattle.check_phases
pub use Rattle.edited_root
pub use Rattle.result_parts
pub mod Staging
