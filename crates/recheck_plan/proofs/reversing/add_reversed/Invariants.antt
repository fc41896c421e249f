use Rattle.graph_search.proofs.EdgeLemmas.{HalfReversed}
use Rattle.recheck_plan.proofs.reversing.add_reversed.Given as goal

abbrev pub invariant-loop-x : goal.invariant-loop-x
invariant-loop-x l = HalfReversed l.edges l.x l.back
