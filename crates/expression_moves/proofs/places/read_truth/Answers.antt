use Rattle.check_moves.proofs.Following.{follows_through, follows_under}
use Rattle.expression_moves.proofs.places.read_truth.Goals as goal

pub returns-then-value-clause-follows : goal.returns-then-value-clause-follows
returns-then-value-clause-follows c = follows_under _ _ _ _ _ c.in_ok-fork.ensures.follows c.die.ensures.follows

pub returns-clause-follows : goal.returns-clause-follows
returns-clause-follows c =
    follows_through _ _ _ _ _ _ (follows_under _ _ _ _ _ c.in_ok-fork.ensures.follows c.die.ensures.follows) c.in_ok-fork-2.ensures.follows
