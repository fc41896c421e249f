-- What `unfolding(..)` takes of a library that is handed on.
pub use Rattle.check_items.specs.check_moves.specs.View.{around, now}
