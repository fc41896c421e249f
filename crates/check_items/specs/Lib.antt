pub use Rattle.check_moves
pub mod View
pub mod Exported
pub mod Meant
pub mod Aliases
