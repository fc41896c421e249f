use Rattle.std.proofs.Common.{refl}
use Rattle.check_moves.proofs.Following.{follows_kept}
use Rattle.statement_moves.proofs.statements.join_some.Goals as goal

pub returns-in_ok-join-in-Some-clause-follows : goal.returns-in_ok-join-in-Some-clause-follows
returns-in_ok-join-in-Some-clause-follows c = follows_kept c.args.state.now _ refl c.join.ensures.marks
