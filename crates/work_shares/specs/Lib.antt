pub use Rattle.analyst
pub mod Shares
