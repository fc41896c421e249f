use Rattle.std.proofs.Common.{◌≡◌, ℕ, slice_get, Some, take}
use Rattle.graph_search.specs.Cycles.{Has}
use Rattle.graph_search.proofs.cycles.leads_back.Given as goal

abbrev pub invariant-loop-y : goal.invariant-loop-y
invariant-loop-y l = (y : ℕ) → Has (take l.y-index l.y-items) y → ¬ (slice_get l.classes y ≡ Some l.class)
