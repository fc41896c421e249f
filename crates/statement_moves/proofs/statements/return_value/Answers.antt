use Rattle.std.proofs.Common.{None}
use Rattle.check_moves.proofs.Following.{follows_through}
use Rattle.statement_moves.proofs.statements.return_value.Goals as goal

pub returns-clause-follows : goal.returns-clause-follows
returns-clause-follows c =
    follows_through c.args.value.fork None None c.args.state.now c.returns.new.self c.die.new.self
    (follows_through c.args.value.fork None None c.args.state.now c.after.new.self c.returns.new.self c.in_ok-ty.ensures.follows c.in_ok-returns.ensures.follows) c.die.ensures.follows
