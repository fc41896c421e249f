use Rattle.std.proofs.Common.{◌≡◌, false, true, refl, sym, ◌∙◌, arith}
use Rattle.graph_search.proofs.Lists.{get_index}
use Rattle.graph_search.proofs.Withins.{within_next, within_all, within_here}
use Rattle.graph_search.proofs.bounds.are_within.Goals as goal

pub loop-x-init : goal.loop-x-init
loop-x-init c = λ k ys less at. absurd (omega arith)

pub loop-x-preserved : goal.loop-x-preserved
loop-x-preserved c =
    let list = get_index c.args.edges.now c.loop-x.x c.index-edges-x.result c.index-edges-x.result (omega arith) (sym c.index-edges-x.is) in
    within_next c.args.edges.now _ c.loop-x.x c.index-edges-x.result c.as_slice.result.now list c.as_slice.ensures (c.all_below.ensures.0 c.if-not-all_below.false) c.loop-x.invariant

pub returns-then-not-all_below : goal.returns-then-not-all_below
returns-then-not-all_below c =
    let list = get_index c.args.edges.now c.loop-x.x c.index-edges-x.result c.index-edges-x.result (omega arith) (sym c.index-edges-x.is) in
    ((λ t. absurd (let f : false ≡ true = t in cc)), (λ within. sym c.if-not-all_below.true ∙ c.all_below.ensures.1 (within_here c.args.edges.now c.loop-x.x c.index-edges-x.result c.as_slice.result.now list c.as_slice.ensures (omega arith) within)))

pub returns : goal.returns
returns c = ((λ t. within_all c.args.edges.now c.loop-x.x (omega arith) c.loop-x.invariant), (λ within. refl))
