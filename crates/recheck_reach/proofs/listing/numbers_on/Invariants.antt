use Rattle.graph_search.specs.Cycles.{IsOn}
use Rattle.recheck_plan.specs.Marks.{AreBelow}
use Rattle.recheck_reach.proofs.listing.numbers_on.Given as goal

abbrev pub invariant-loop-x : goal.invariant-loop-x
invariant-loop-x l = AreBelow (IsOn l.flags) l.x l.numbers
