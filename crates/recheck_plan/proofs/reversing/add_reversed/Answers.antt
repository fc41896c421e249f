use Rattle.std.proofs.Common.{ap, length, ◌∙◌, sym, arith, Some}
use Rattle.std.proofs.lemmas.List.{length-replicate}
use Rattle.graph_search.proofs.EdgeLemmas.{reverse_begins, reverse_step, reverse_ends}
use Rattle.graph_search.proofs.Lists.{get_index}
use Rattle.graph_search.proofs.Searches.{list_small_here}
use Rattle.recheck_plan.proofs.reversing.add_reversed.Goals as goal

pub loop-x-init : goal.loop-x-init
loop-x-init c = reverse_begins c.args.edges.now c.args.back.now c.requires.empty (ap length c.requires.empty ∙ length-replicate _ _)

pub add_all-requires : goal.add_all-requires
add_all-requires c =
    let row = c.index-edges-x.result in
    let is = get_index c.args.edges.now c.loop-x.x row row c.loop-x-test.true (sym c.index-edges-x.is) ∙ ap Some (sym c.as_slice.ensures) in
    list_small_here c.args.edges.now c.loop-x.x c.as_slice.result.now c.loop-x.back c.requires.within is c.loop-x.invariant.len

pub loop-x-preserved : goal.loop-x-preserved
loop-x-preserved c =
    let row = c.index-edges-x.result in
    let is = get_index c.args.edges.now c.loop-x.x row row c.loop-x-test.true (sym c.index-edges-x.is) ∙ ap Some (sym c.as_slice.ensures) in
    reverse_step c.args.edges.now c.loop-x.x c.as_slice.result.now is c.loop-x.invariant c.in_ok-add_all.ensures

pub returns : goal.returns
returns c = reverse_ends c.args.edges.now c.loop-x.back c.loop-x.x (omega arith) c.loop-x.invariant
