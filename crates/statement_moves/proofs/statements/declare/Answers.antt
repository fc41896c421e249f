use Rattle.std.proofs.Common.{None}
use Rattle.std.proofs.lemmas.Result.{on_ok_weaker}
use Rattle.check_moves.proofs.Following.{follows_through}
use Rattle.statement_moves.proofs.statements.declare.Goals as goal

pub returns-in_default-clause-follows : goal.returns-in_default-clause-follows
returns-in_default-clause-follows c =
    on_ok_weaker c.declare_type.result (follows_through _ _ None _ _ c.declare_type.new.state c.in_ok-value.ensures.follows) c.declare_type.ensures.follows

pub returns-clause-follows : goal.returns-clause-follows
returns-clause-follows c =
    on_ok_weaker c.declare_type-2.result
    (follows_through _ _ None _ _ c.declare_type-2.new.state (follows_through _ _ _ _ _ _ c.in_ok-value.ensures.follows c.in_ok-assign_declared.ensures.follows)) c.declare_type-2.ensures.follows
