-- What stays behind a state: the marks, and the heights of its names.
use Rattle.std.specs.Prelude.{List, Option, None}
use Rattle.scopes.specs.View.{KeepsHeights}
use Rattle.fact_ways.specs.declared.fork.Fork.{Fork}
use Rattle.fact_ways.specs.Ways.{Fits, Goes, Leads, AreNested, outermost}
use Rattle.check_moves.specs.declared.state.State.{State}

-- from ways to others, which stand
pub record Follows (from : Option Fork) (old : State) (to : Option Fork) (new : State) : Type 0 where
  pub leads : Leads from old.facts to new.facts
  pub heights : KeepsHeights old.scope new.scope

-- Behind a state, ways that left stand round others, the first ones inside the next, and round nothing else of that state.
pub record Leaves (before : State) (left : List Fork) (inner : Option Fork) (s : State) : Type 0 where
  pub nested : AreNested left inner s.facts
  pub fits : Fits inner s.facts
  pub goes : Goes None before.facts (outermost left inner) s.facts
  pub heights : KeepsHeights before.scope s.scope
