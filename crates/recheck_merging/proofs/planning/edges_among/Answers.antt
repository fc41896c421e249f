use Rattle.std.proofs.Common.{◌≡◌, length, ap, ◌∙◌, rules}
use Rattle.recheck_merging.proofs.Among.{all_low, among_by}
use Rattle.recheck_merging.proofs.planning.edges_among.Goals as goal

pub placed_edges-requires : goal.placed_edges-requires
placed_edges-requires c =
    let count : c.len-count.result ≡ length c.args.sources.now.root.modules = search rules in
    record {
      within = all_low c.args.sources.now c.args.numbers.now c.args.edges.now (length c.as_slice-slots.result.now) c.requires.edges (ap length c.as_slice-slots.ensures.value ∙ (c.in_ok-places.ensures.many ∙ count));
    }

pub returns : goal.returns
returns c =
    among_by c.args.sources.now c.args.numbers.now c.args.edges.now c.in_ok-places.places.items c.as_slice-slots.result.now c.in_ok-inner.inner.items c.requires.within c.requires.edges c.in_ok-places.ensures.places c.as_slice-slots.ensures.value c.in_ok-inner.ensures
