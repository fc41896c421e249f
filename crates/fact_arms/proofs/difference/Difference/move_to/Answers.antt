use Rattle.fact_arms.proofs.Taking.{moved_first, moved_goes, moved_more, moved_all}
use Rattle.fact_arms.proofs.difference.Difference.move_to.Goals as goal

pub loop-slot-init : goal.loop-slot-init
loop-slot-init c = moved_first c.args.self c.args.trail.now c.make_gone.new.trail c.make_gone.ensures.made c.make_gone.ensures.goes

pub loop-slot-preserved : goal.loop-slot-preserved
loop-slot-preserved c =
    let row = c.in-Some in
    let given = c.in_ok-give_own.ensures in
    let before = c.loop-slot.invariant in
    moved_more c.args.self c.args.trail.now c.loop-slot.rest c.pop.new.self c.loop-slot.trail c.give_own.new.trail row.slot row.fact before row.ensures.was row.ensures.said given.made
    (moved_goes c.args.self c.args.trail.now c.loop-slot.rest c.loop-slot.trail c.give_own.new.trail row.slot row.fact before row.ensures.was given.longer given.moments given.fresh)

pub returns-clause-made : goal.returns-clause-made
returns-clause-made c = moved_all c.args.self c.args.trail.now c.loop-slot.rest c.loop-slot.trail c.loop-slot.invariant c.in_default.ensures.none

pub returns-in_err-give_own-clause-goes : goal.returns-in_err-give_own-clause-goes
returns-in_err-give_own-clause-goes c =
    let row = c.in-Some in
    let given = c.in_err-give_own.ensures in
    moved_goes c.args.self c.args.trail.now c.loop-slot.rest c.loop-slot.trail c.give_own.new.trail row.slot row.fact c.loop-slot.invariant row.ensures.was given.longer given.moments given.fresh
