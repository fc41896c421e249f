use Rattle.std.proofs.Common.{Some, None}
use Rattle.check_moves.proofs.Following.{follows_through}
use Rattle.expression_moves.proofs.places.go_on_yes.Goals as goal

pub returns-clause-follows : goal.returns-clause-follows
returns-clause-follows c = follows_through c.args.read.fork (Some c.in_ok-fork.fork) None c.args.state.now c.split.new.self c.take.new.self c.in_ok-fork.ensures.follows c.in_ok-take.ensures.follows
