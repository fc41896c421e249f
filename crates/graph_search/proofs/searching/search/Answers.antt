use Rattle.std.proofs.Common.{◌<◌, length, arith, ◌∙◌, refl}
use Rattle.graph_search.proofs.Searches.{search_begins, search_step, search_ends, next_small, next_is, still_within, list_small}
use Rattle.graph_search.proofs.searching.search.Goals as goal

pub loop-at-init : goal.loop-at-init
loop-at-init c = record {
  search = search_begins _ c.new-found.ensures c.in_ok-close_all.ensures;
  within = omega arith;
}

pub ends-requires : goal.ends-requires
ends-requires c = next_small c.loop-at.found c.as_slice.result.now c.loop-at.at c.as_slice.ensures c.requires.size (omega arith) c.loop-at.invariant.search

pub close_all-requires-in-loop-at : goal.close_all-requires-in-loop-at
close_all-requires-in-loop-at c =
    list_small c.args.edges.now _ c.ends.result.now c.loop-at.opened c.requires.edges c.ends.ensures (c.loop-at.invariant.search.len ∙ c.requires.size)

pub loop-at-smaller : goal.loop-at-smaller
loop-at-smaller c =
    let inside : c.loop-at.at < length c.loop-at.found = omega arith in
    let still = still_within c.loop-at.found c.close_all-in-loop-at.new.found c.loop-at.at inside c.in_ok-close_all-2.ensures in
    let light = c.in_ok-close_all-2.ensures.lighter in
    omega arith

pub loop-at-preserved : goal.loop-at-preserved
loop-at-preserved c =
    let inside : c.loop-at.at < length c.loop-at.found = omega arith in
    let still = still_within c.loop-at.found c.close_all-in-loop-at.new.found c.loop-at.at inside c.in_ok-close_all-2.ensures in
    record {
      search = search_step c.loop-at.at _ c.ends.result.now c.ends.result.now (next_is c.loop-at.found c.as_slice.result.now c.loop-at.at c.as_slice.ensures inside)
          c.ends.ensures refl c.loop-at.invariant.search c.in_ok-close_all-2.ensures;
      within = omega arith;
    }

pub returns : goal.returns
returns c = search_ends c.loop-at.at (omega arith) c.loop-at.invariant.search
