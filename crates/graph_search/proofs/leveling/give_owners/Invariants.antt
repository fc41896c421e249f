use Rattle.graph_search.proofs.Owns.{AreHalfOwned}
use Rattle.graph_search.proofs.leveling.give_owners.Given as goal

abbrev pub invariant-loop-k : goal.invariant-loop-k
invariant-loop-k l = AreHalfOwned l.edges l.components l.k l.owners
