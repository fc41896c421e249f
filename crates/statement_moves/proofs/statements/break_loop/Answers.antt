use Rattle.check_moves.proofs.Following.{follows_through}
use Rattle.statement_moves.proofs.statements.break_loop.Goals as goal

pub returns-clause-follows : goal.returns-clause-follows
returns-clause-follows c = follows_through _ _ _ _ _ _ c.in_ok-join_breaks.ensures.follows c.die.ensures.follows
