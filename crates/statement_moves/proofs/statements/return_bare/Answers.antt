use Rattle.std.proofs.Common.{◌≡◌, Option, None, refl}
use Rattle.scopes.specs.View.{KeepsHeights}
use Rattle.fact_ways.specs.declared.fork.Fork.{Fork}
use Rattle.check_moves.specs.declared.state.State.{State}
use Rattle.check_moves.specs.Follows.{Follows}
use Rattle.check_moves.proofs.Following.{follows_scope, follows_through}
use Rattle.statement_moves.proofs.statements.return_bare.Goals as goal

-- behind a state with the same names and facts
follows_behind : (s : Option Fork) (a b c : State) → Follows None b s c → b.facts ≡ a.facts → KeepsHeights a.scope b.scope → Follows None a s c
follows_behind s a b c next facts heights = follows_through None None s a b c (follows_scope a b facts heights) next

pub returns-clause-follows : goal.returns-clause-follows
returns-clause-follows c =
    follows_behind _ c.args.state.now _ _ (follows_through _ _ _ _ _ _ c.in_ok-returns.ensures.follows c.die.ensures.follows) refl (λ height is. (is, refl))
