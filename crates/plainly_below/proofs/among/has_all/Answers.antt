use Rattle.std.proofs.Common.{arith}
use Rattle.plainly_below.proofs.Below.{first_none, first_next, first_all}
use Rattle.plainly_below.proofs.among.has_all.Goals as goal

pub loop-i-init : goal.loop-i-init
loop-i-init c = first_none c.args.some.now c.args.all.now

pub loop-i-preserved : goal.loop-i-preserved
loop-i-preserved c = first_next c.args.some.now c.args.all.now c.loop-i.i c.index-some-i.result (omega (arith, c.loop-i-test.true)) c.index-some-i.is (c.has.ensures c.if-not-has.false) c.loop-i.invariant

pub returns : goal.returns
returns c = λ _. first_all c.args.some.now c.args.all.now c.loop-i.i (omega (arith, c.loop-i-test.false)) c.loop-i.invariant
