use Rattle.std.proofs.Common.{refl, arith}
use Rattle.graph_search.proofs.Withins.{below_none, below_next, below_all}
use Rattle.graph_search.proofs.bounds.all_below.Goals as goal

pub loop-number-init : goal.loop-number-init
loop-number-init c = below_none c.args.numbers.now c.args.count

pub loop-number-preserved : goal.loop-number-preserved
loop-number-preserved c = below_next c.args.numbers.now c.loop-number.number-index c.args.count (omega arith) c.loop-number.invariant

pub returns : goal.returns
returns c = ((λ t. below_all c.args.numbers.now c.loop-number.number-index c.args.count c.loop-number-test.false c.loop-number.invariant), (λ all. refl))
