pub use Rattle.js_tree
pub mod Front
pub mod Law
