use Rattle.graph_search.specs.Visiting.{still_to_do}
use Rattle.graph_search.proofs.ordering.visit.Given as goal

abbrev pub invariant-loop-at : goal.invariant-loop-at
invariant-loop-at l = Unit {0}

abbrev pub decreases-loop-at : goal.decreases-loop-at
decreases-loop-at l = still_to_do l.edges l.seen l.path.items
