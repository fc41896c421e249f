use Rattle.std.proofs.Common.{arith}
use Rattle.fact_arms.proofs.Moving.{goes_same, goes_last, goes_then, one_back, back_at}
use Rattle.fact_arms.proofs.trails.go_back.Goals as goal

pub loop-trail-preserved : goal.loop-trail-preserved
loop-trail-preserved c =
    let took = c.in_ok-change.ensures in
    let before = c.loop-trail.invariant in
    record {
      within = let one = one_back c.loop-trail.trail c.undo.new.self c.in_ok-change.change (omega (arith, c.loop-trail-test.true, c.len.ensures)) took.after took.shorter in omega (arith, one, c.loop-trail-test.true, c.len.ensures);
      goes = goes_then c.args.trail.now c.loop-trail.trail c.undo.new.self before.goes (goes_last c.loop-trail.trail c.undo.new.self c.in_ok-change.change took.shorter took.moments took.fresh);
      capacity = let had = before.capacity in omega (arith, had, c.undo.ensures.capacity);
    }

pub returns-clause-back : goal.returns-clause-back
returns-clause-back c = let before = c.loop-trail.invariant in back_at c.args.trail.now c.loop-trail.trail c.args.number before.goes (omega (arith, c.loop-trail-test.false, c.len.ensures)) before.within

pub returns-in_err-change-clause-goes : goal.returns-in_err-change-clause-goes
returns-in_err-change-clause-goes c = goes_then c.args.trail.now c.loop-trail.trail c.undo.new.self c.loop-trail.invariant.goes (goes_same c.loop-trail.trail c.undo.new.self c.in_err-change.ensures.err)
