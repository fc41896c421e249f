use Rattle.graph_search.specs.Grouping.{AreTaken}
use Rattle.graph_search.proofs.grouping.take_lists.Given as goal

abbrev pub invariant-loop-x : goal.invariant-loop-x
invariant-loop-x l = AreTaken l.classes l.lists l.x l.all
