use Rattle.check_moves.proofs.Following.{follows_through}
use Rattle.check_items.proofs.items.read_default.Goals as goal

pub returns-clause-follows : goal.returns-clause-follows
returns-clause-follows c = follows_through _ _ _ _ _ _ c.in_ok-value.ensures.follows c.in_ok-after.ensures.follows
