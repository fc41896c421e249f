use Rattle.std.proofs.Common.{◌≡◌, ◌++◌, take}
use Rattle.typing.specs.Changes.{declared_in}
use Rattle.code_tree.specs.View.{statements_view}
use Rattle.code_changes.proofs.names.add_declared_in.Given as goal

abbrev pub invariant-loop-i : goal.invariant-loop-i
invariant-loop-i l = l.own ≡ l.fn.own ++ declared_in (statements_view (take l.i l.all))
