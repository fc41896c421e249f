use Rattle.std.proofs.Common.{arith}
use Rattle.graph_search.proofs.MarkLemmas.{marks_none, marks_next, marks_all}
use Rattle.recheck_run.proofs.flags.flag_all.Goals as goal

pub loop-number-init : goal.loop-number-init
loop-number-init c = marks_none c.args.flags.now

pub loop-number-preserved : goal.loop-number-preserved
loop-number-preserved c =
    marks_next c.args.numbers.now c.loop-number.number-index c.args.flags.now c.loop-number.flags c.loop-number-test.true (let h = c.requires c.loop-number.number-index 0 c.loop-number-test.true in omega arith) c.loop-number.invariant

pub returns : goal.returns
returns c = marks_all c.args.numbers.now c.loop-number.number-index c.loop-number-test.false c.loop-number.invariant
