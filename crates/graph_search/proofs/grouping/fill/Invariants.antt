use Rattle.std.proofs.Common.{length}
use Rattle.graph_search.specs.Grouping.{AreFilled}
use Rattle.graph_search.proofs.grouping.fill.Given as goal

abbrev pub invariant-loop-x : goal.invariant-loop-x
invariant-loop-x l = AreFilled l.keys (length l.fn.lists) l.x l.lists
