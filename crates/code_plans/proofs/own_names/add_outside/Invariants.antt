use Rattle.std.proofs.Common.{◌≡◌, ◌++◌, List, take}
use Rattle.check_values.specs.Rows.{Bytes}
use Rattle.typing.specs.Changes.{outside}
use Rattle.code_changes.specs.View.{changes_view}
use Rattle.code_plans.specs.View.{Owns}
use Rattle.code_plans.proofs.own_names.add_outside.Given as goal

abbrev pub invariant-loop-i : goal.invariant-loop-i
invariant-loop-i l = (names : List Bytes) → Owns l.own names → changes_view l.out ≡ changes_view l.fn.out ++ outside names (changes_view (take l.i l.changes))
