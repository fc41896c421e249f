use Rattle.std.proofs.Common.{◌≡◌, length}
use Rattle.scopes.specs.View.{GoesBack}
use Rattle.scopes.proofs.scope.Scope.take_names_away.Given as goal

abbrev pub invariant-loop-height : goal.invariant-loop-height
invariant-loop-height l = GoesBack l.height l.fn.self l.self × (l.self.changes.items ≡ l.fn.self.changes.items)

abbrev pub decreases-loop-height : goal.decreases-loop-height
decreases-loop-height l = length l.self.rows.items
