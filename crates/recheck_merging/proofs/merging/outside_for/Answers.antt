use Rattle.std.proofs.Common.{ℕ, ◌<◌, length, arith, refl, rules}
use Rattle.std.proofs.lemmas.List.Elements.{All-get_or}
use Rattle.recheck_merging.proofs.Outside.{edges_low, outside_more}
use Rattle.recheck_merging.proofs.merging.outside_for.Goals as goal

pub loop-i-preserved : goal.loop-i-preserved
loop-i-preserved c =
    let low = All-get_or (λ (i : ℕ). i < length c.args.plan.now.edges.items) c.args.places.now c.loop-i.i 0 (omega arith) c.requires.within in
    outside_more c.args.sources.now c.args.slots.now c.args.plan.now.edges.items c.args.places.now c.loop-i.i _ _ _ _ (omega arith) refl low (search rules) c.loop-i.invariant c.in_ok-add_outside.ensures

pub add_outside-requires-clause-within : goal.add_outside-requires-clause-within
add_outside-requires-clause-within c =
    let low = All-get_or (λ (i : ℕ). i < length c.args.plan.now.edges.items) c.args.places.now c.loop-i.i 0 (omega arith) c.requires.within in
    edges_low c.args.sources.now c.args.plan.now _ (length c.args.slots.now) _ c.requires.plan c.requires.many low (search rules)
