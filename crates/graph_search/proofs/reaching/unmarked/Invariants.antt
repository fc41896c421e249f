use Rattle.graph_search.specs.Grouping.{AreUnmarked}
use Rattle.graph_search.proofs.reaching.unmarked.Given as goal

abbrev pub invariant-loop-x : goal.invariant-loop-x
invariant-loop-x l = AreUnmarked l.marks l.x l.all
