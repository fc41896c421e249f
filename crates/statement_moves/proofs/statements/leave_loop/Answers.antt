use Rattle.std.proofs.Common.{None, refl}
use Rattle.std.proofs.lemmas.Result.{on_ok_weaker}
use Rattle.check_moves.proofs.Following.{follows_past}
use Rattle.statement_moves.proofs.statements.leave_loop.Goals as goal

pub returns-clause-follows : goal.returns-clause-follows
returns-clause-follows c =
    on_ok_weaker c.join_some.result
    (follows_past _ None _ _ (record c.take.new.self { breaks = c.replace-breaks.new.dest }) c.join_some.new.state c.in_ok-take.ensures.follows refl refl) c.join_some.ensures.follows
