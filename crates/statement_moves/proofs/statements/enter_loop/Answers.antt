use Rattle.std.proofs.Common.{refl}
use Rattle.check_moves.proofs.Following.{follows_kept}
use Rattle.statement_moves.proofs.statements.enter_loop.Goals as goal

pub returns-clause-follows : goal.returns-clause-follows
returns-clause-follows c = follows_kept c.args.state.now _ refl c.enter_loop.ensures.marks
