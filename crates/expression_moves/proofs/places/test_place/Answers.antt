use Rattle.std.proofs.Common.{None}
use Rattle.flow_facts.specs.declared.test.Test as test
use Rattle.typing.specs.States.{assume}
use Rattle.check_world.specs.View.{world_view}
use Rattle.check_moves.proofs.Following.{fits_under, follows_two}
use Rattle.expression_moves.proofs.Ways.{two_ways}
use Rattle.expression_moves.proofs.places.test_place.Goals as goal

pub turn-requires : goal.turn-requires
turn-requires c = fits_under None c.in_ok-fork.fork c.args.state.now c.stand.new.self c.assume.new.state c.in_ok-fork.ensures.follows c.in_ok-assume.ensures.follows

pub returns-clause-told : goal.returns-clause-told
returns-clause-told c =
    let w = world_view c.args.world.now in
    two_ways c.args.ty (assume w test.Truthy c.args.place.now c.args.declared.now) (assume w test.Falsy c.args.place.now c.args.declared.now) c.in_ok-fork.fork c.in_ok-fork-2.fork
    c.args.state.now c.stand.new.self c.assume.new.state c.turn.new.self _ c.in_ok-fork.ensures.now c.in_ok-fork.ensures.arm c.in_ok-fork.ensures.follows
    c.in_ok-assume.ensures.now c.in_ok-assume.ensures.follows c.in_ok-fork-2.ensures.now c.in_ok-fork-2.ensures.arm c.in_ok-fork-2.ensures.follows c.in_ok-assume-2.ensures.now c.in_ok-assume-2.ensures.follows

pub returns-clause-follows : goal.returns-clause-follows
returns-clause-follows c =
    follows_two _ _ _ _ _ _ _ c.in_ok-fork.ensures.follows c.in_ok-assume.ensures.follows c.in_ok-fork-2.ensures.follows c.in_ok-assume-2.ensures.follows
