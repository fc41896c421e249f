use Rattle.std.proofs.Common.{◌≡◌, false, true, get_or, refl, arith}
use Rattle.graph_search.proofs.CycleLemmas.{on_cycle, off_cycle, next_off}
use Rattle.graph_search.proofs.cycles.leads_back.Goals as goal

pub returns-then-classes-y : goal.returns-then-classes-y
returns-then-classes-y c =
    ((λ t. on_cycle c.args.edges.now c.args.classes.now c.args.x c.ends-y-items.result.now c.loop-y.y-index c.requires.classes c.requires.within c.ends-y-items.ensures c.loop-y-test.true c.requires.small (omega arith)), (λ cycle. refl))

pub loop-y-preserved : goal.loop-y-preserved
loop-y-preserved c = next_off c.args.classes.now c.ends-y-items.result.now (get_or c.args.classes.now c.args.x 0) c.loop-y.y-index (λ same. omega arith) c.loop-y.invariant

pub returns : goal.returns
returns c =
    ((λ t. absurd (let f : false ≡ true = t in cc)), (λ cycle. absurd (off_cycle c.args.edges.now c.args.classes.now c.args.x c.ends-y-items.result.now c.loop-y.y-index c.requires.classes c.ends-y-items.ensures c.requires.small c.loop-y-test.false c.loop-y.invariant cycle)))
