use Rattle.std.proofs.Common.{◌≡◌, take}
use Rattle.recheck_merging.specs.Plans.{edges_at}
use Rattle.recheck_merging.specs.Merging.{outside_by}
use Rattle.recheck_merging.proofs.merging.outside_for.Given as goal

abbrev pub invariant-loop-i : goal.invariant-loop-i
invariant-loop-i l = l.outside ≡ outside_by l.sources l.slots (edges_at l.plan.edges.items (take l.i l.places))
