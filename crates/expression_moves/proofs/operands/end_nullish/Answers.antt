use Rattle.std.proofs.Common.{None}
use Rattle.expression_moves.proofs.Rounds.{follows_round}
use Rattle.expression_moves.proofs.operands.end_nullish.Goals as goal

pub returns-clause-follows : goal.returns-clause-follows
returns-clause-follows c =
    follows_round c.args.fork c.args.right.fork None c.args.state.now c.after.new.self c.meet.new.self c.requires.left c.in_ok-right.ensures.follows c.in_ok-meet.ensures.follows
