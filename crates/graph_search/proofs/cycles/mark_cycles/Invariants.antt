use Rattle.graph_search.proofs.CycleLemmas.{AreHalfMarked}
use Rattle.graph_search.proofs.cycles.mark_cycles.Given as goal

abbrev pub invariant-loop-x : goal.invariant-loop-x
invariant-loop-x l = AreHalfMarked l.edges l.x l.marks.items
