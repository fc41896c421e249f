use Rattle.recheck_plan.specs.Marks.{IsMarked, AreBelow}
use Rattle.recheck_plan.proofs.checking.all_marked.Given as goal

abbrev pub invariant-loop-x : goal.invariant-loop-x
invariant-loop-x l = AreBelow (IsMarked l.reach l.touched l.moved) l.x l.all
