use Rattle.std.proofs.Common.{refl}
use Rattle.check_moves.proofs.Following.{follows_from}
use Rattle.expression_moves.proofs.postfixes.read_called.Goals as goal

pub returns-clause-follows : goal.returns-clause-follows
returns-clause-follows c = follows_from _ c.args.state.now _ _ refl refl c.forget_properties.ensures.follows
