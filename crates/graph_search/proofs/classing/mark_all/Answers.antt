use Rattle.std.proofs.Common.{arith}
use Rattle.graph_search.proofs.MarkLemmas.{marks_none, marks_next, marks_all}
use Rattle.graph_search.proofs.classing.mark_all.Goals as goal

pub loop-x-init : goal.loop-x-init
loop-x-init c = marks_none c.args.marks.now

pub loop-x-preserved : goal.loop-x-preserved
loop-x-preserved c = marks_next c.args.xs.now c.loop-x.x-index c.args.marks.now c.loop-x.marks c.loop-x-test.true (let h = c.requires c.loop-x.x-index 0 c.loop-x-test.true in omega arith) c.loop-x.invariant

pub returns : goal.returns
returns c = marks_all c.args.xs.now c.loop-x.x-index c.loop-x-test.false c.loop-x.invariant
