use Rattle.check_moves.proofs.Following.{follows_through, follows_under, way_under}
use Rattle.expression_moves.proofs.Operating.{arm_begun}
use Rattle.expression_moves.proofs.operands.begin_nullish.Goals as goal

pub returns-clause-arm : goal.returns-clause-arm
returns-clause-arm c =
    arm_begun c.args.left c.in_ok-fork.fork c.args.state.now c.after.new.self c.stand.new.self c.assume_nullish.new.state c.in_ok-ty.ensures.now c.in_ok-fork.ensures.arm
    (way_under c.in_ok-fork.fork c.stand.new.self c.assume_nullish.new.state c.in_ok-fork.ensures.follows.leads.fits c.in_ok-assume_nullish.ensures.follows)

pub returns-clause-follows : goal.returns-clause-follows
returns-clause-follows c =
    follows_under _ _ _ _ _ (follows_through _ _ _ _ _ _ c.in_ok-ty.ensures.follows c.in_ok-fork.ensures.follows) c.in_ok-assume_nullish.ensures.follows
