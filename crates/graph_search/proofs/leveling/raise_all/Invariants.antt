use Rattle.graph_search.specs.Leveling.{HaveRisen}
use Rattle.graph_search.proofs.leveling.raise_all.Given as goal

abbrev pub invariant-loop-x : goal.invariant-loop-x
invariant-loop-x l = HaveRisen l.edges l.owners l.x l.fn.levels l.levels l.rose
