use Rattle.recheck_plan.specs.Marks.{AreBelow}
use Rattle.recheck_sources.specs.Keeping.{IsOnEither}
use Rattle.recheck_sources.proofs.telling.either_places.Given as goal

abbrev pub invariant-loop-x : goal.invariant-loop-x
invariant-loop-x l = AreBelow (IsOnEither l.first l.second) l.x l.all
