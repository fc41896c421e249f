use Rattle.std.proofs.Common.{◌≡◌, map, take}
use Rattle.recheck_merging.specs.Inner.{placed}
use Rattle.recheck_merging.proofs.planning.placed_edges.Given as goal

abbrev pub invariant-loop-i : goal.invariant-loop-i
invariant-loop-i l = l.inner.items ≡ map (placed l.places) (take l.i l.edges)
