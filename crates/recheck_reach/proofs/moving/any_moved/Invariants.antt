use Rattle.std.proofs.Common.{ℕ, ◌<◌}
use Rattle.graph_search.specs.Cycles.{IsOn}
use Rattle.recheck_reach.proofs.moving.any_moved.Given as goal

abbrev pub invariant-loop-x : goal.invariant-loop-x
invariant-loop-x l = (k : ℕ) → k < l.x → ¬ (IsOn l.moved k)
