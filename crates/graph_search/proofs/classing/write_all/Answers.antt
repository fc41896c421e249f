use Rattle.std.proofs.Common.{arith}
use Rattle.graph_search.proofs.MarkLemmas.{writes_none, writes_next, writes_all}
use Rattle.graph_search.proofs.classing.write_all.Goals as goal

pub loop-x-init : goal.loop-x-init
loop-x-init c = writes_none c.args.p c.args.numbers.now

pub loop-x-preserved : goal.loop-x-preserved
loop-x-preserved c = writes_next c.args.xs.now c.loop-x.x-index c.args.p c.args.numbers.now c.loop-x.numbers c.loop-x-test.true (let h = c.requires c.loop-x.x-index 0 c.loop-x-test.true in omega arith) c.loop-x.invariant

pub returns : goal.returns
returns c = writes_all c.args.xs.now c.loop-x.x-index c.args.p c.loop-x-test.false c.loop-x.invariant
