use Rattle.std.proofs.Common.{◌≡◌, take}
use Rattle.recheck_merging.specs.Inner.{lists_of}
use Rattle.recheck_merging.proofs.planning.edges_at.Given as goal

abbrev pub invariant-loop-i : goal.invariant-loop-i
invariant-loop-i l = l.lists.items ≡ lists_of l.edges (take l.i l.numbers)
