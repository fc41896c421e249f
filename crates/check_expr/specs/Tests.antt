-- Tests behind which ways part.
use Rattle.std.specs.Prelude.{◌≡◌, Some, None}
use Rattle.typing.specs.States.{Out, no_of, on_yes}
use Rattle.fact_ways.specs.declared.fork.Fork.{Fork}
use Rattle.fact_ways.specs.Ways.{way_of}
use Rattle.check_moves.specs.declared.state.State.{State}
use Rattle.check_moves.specs.View.{around, now}
use Rattle.check_moves.specs.Follows.{Follows}

-- A state behind a test that was read from another one, on its way where it is truthy; the other way is told by its fork.
pub record Tested (o : Out) (before : State) (k : Fork) (s : State) : Type 0 where
  pub now : now s ≡ on_yes o
  pub way : way_of s.facts k ≡ no_of o
  pub same : around s ≡ around before
  pub follows : Follows None before (Some k) s
