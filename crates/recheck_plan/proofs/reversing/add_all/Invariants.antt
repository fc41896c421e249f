use Rattle.std.proofs.Common.{take}
use Rattle.graph_search.specs.Searching.{Adds}
use Rattle.recheck_plan.proofs.reversing.add_all.Given as goal

abbrev pub invariant-loop-y : goal.invariant-loop-y
invariant-loop-y l = Adds l.x (take l.y-index l.ys) l.fn.back l.back
