use Rattle.std.proofs.Common.{ℕ, take}
use Rattle.graph_search.specs.Cycles.{Has, IsOn}
use Rattle.recheck_plan.proofs.checking.has_marked.Given as goal

abbrev pub invariant-loop-number : goal.invariant-loop-number
invariant-loop-number l = (m : ℕ) → Has (take l.number-index l.numbers) m → ¬ (IsOn l.marks m)
