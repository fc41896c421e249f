use Rattle.graph_search.proofs.MarkLemmas.{puts_none, puts_next, puts_all}
use Rattle.graph_search.proofs.classing.put_back.Goals as goal

pub loop-x-init : goal.loop-x-init
loop-x-init c = puts_none c.args.left.now c.args.inside.now

pub loop-x-preserved : goal.loop-x-preserved
loop-x-preserved c = puts_next c.args.xs.now c.loop-x.x-index c.loop-x-test.true c.loop-x.invariant c.put_one.ensures

pub returns : goal.returns
returns c = puts_all c.args.xs.now c.loop-x.x-index c.loop-x-test.false c.loop-x.invariant
