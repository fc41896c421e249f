use Rattle.check_moves.proofs.Following.{follows_through}
use Rattle.expression_moves.proofs.operands.part.Goals as goal

pub returns-then-is_and-clause-follows : goal.returns-then-is_and-clause-follows
returns-then-is_and-clause-follows c = follows_through _ _ _ _ _ _ c.in_ok-fork.ensures.follows c.in_ok-turn.ensures.follows
