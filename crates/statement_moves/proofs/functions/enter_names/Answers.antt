use Rattle.check_moves.proofs.Following.{follows_through}
use Rattle.statement_moves.proofs.functions.enter_names.Goals as goal

pub returns-clause-follows : goal.returns-clause-follows
returns-clause-follows c = follows_through _ _ _ _ _ _ c.in_ok-bind_own.ensures.follows c.in_ok-outer.ensures.follows
