use Rattle.std.proofs.Common.{take}
use Rattle.graph_search.specs.Searching.{Marks}
use Rattle.graph_search.proofs.classing.mark_all.Given as goal

abbrev pub invariant-loop-x : goal.invariant-loop-x
invariant-loop-x l = Marks (take l.x-index l.xs) l.fn.marks l.marks
