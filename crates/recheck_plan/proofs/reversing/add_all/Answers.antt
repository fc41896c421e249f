use Rattle.std.proofs.Common.{refl}
use Rattle.graph_search.proofs.EdgeLemmas.{adds_none, adds_next, adds_all}
use Rattle.recheck_plan.proofs.reversing.add_all.Goals as goal

pub loop-y-init : goal.loop-y-init
loop-y-init c = adds_none c.args.x c.args.back.now

pub loop-y-preserved : goal.loop-y-preserved
loop-y-preserved c = adds_next c.args.x c.args.ys.now c.loop-y.y-index _ refl c.loop-y-test.true c.loop-y.invariant c.in_ok-add.ensures

pub returns : goal.returns
returns c = adds_all c.args.x c.args.ys.now c.loop-y.y-index c.loop-y-test.false c.loop-y.invariant
