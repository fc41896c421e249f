use Rattle.std.proofs.Common.{length}
use Rattle.graph_search.proofs.Withins.{HalfWithin}
use Rattle.graph_search.proofs.bounds.are_within.Given as goal

abbrev pub invariant-loop-x : goal.invariant-loop-x
invariant-loop-x l = HalfWithin l.edges (length l.edges) l.x
