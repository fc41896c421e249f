use Rattle.std.proofs.Common.{arith}
use Rattle.job_crew.proofs.Returned.{looked_none, looked_parts, looked_more, looked_all}
use Rattle.job_crew.proofs.gathering.account_all.Goals as goal

pub loop-w-init : goal.loop-w-init
loop-w-init g c = looked_none c.args.seats.now

pub account_at-requires : goal.account_at-requires
account_at-requires g c = looked_parts c.loop-w.w c.args.seats.now c.loop-w.seats c.index-seats-w.result (omega arith) c.loop-w.invariant c.requires

pub loop-w-preserved : goal.loop-w-preserved
loop-w-preserved g c = looked_more c.loop-w.w c.args.seats.now c.loop-w.seats c.account_at.new.seat c.index-seats-w.result (omega arith) c.loop-w.invariant c.account_at.ensures.same c.account_at.ensures.whole

pub returns-clause-whole : goal.returns-clause-whole
returns-clause-whole g c = looked_all c.loop-w.w c.args.seats.now c.loop-w.seats (omega arith) c.loop-w.invariant
