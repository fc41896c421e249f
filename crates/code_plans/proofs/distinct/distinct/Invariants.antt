use Rattle.std.proofs.Common.{take}
use Rattle.code_changes.specs.View.{changes_view}
use Rattle.code_plans.specs.View.{Meets}
use Rattle.code_plans.proofs.distinct.distinct.Given as goal

abbrev pub invariant-loop-i : goal.invariant-loop-i
invariant-loop-i l = Meets l.met l.list (changes_view (take l.i l.changes))
