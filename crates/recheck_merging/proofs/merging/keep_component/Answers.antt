use Rattle.std.proofs.Common.{◌≡◌, refl, sym, ◌∙◌, rules}
use Rattle.recheck_merging.specs.Plans.{numbers_at}
use Rattle.recheck_merging.proofs.Groups.{component_low, places_low, merged_here}
use Rattle.recheck_merging.proofs.Merged.{kept_by, many_signed}
use Rattle.recheck_merging.proofs.Outside.{group_low}
use Rattle.recheck_merging.proofs.merging.keep_component.Goals as goal

pub group_at-places-requires-clause-component : goal.group_at-places-requires-clause-component
group_at-places-requires-clause-component c = component_low c.args.edit.now.sources.now c.args.edit.now.plan.now c.args.wave c.args.i c.requires.edit.plan c.requires.wave c.requires.within

pub numbers_of-requires : goal.numbers_of-requires
numbers_of-requires c = places_low c.args.edit.now.sources.now c.args.edit.now.plan.now _ c.group_at-places.result.now c.requires.edit.plan c.group_at-places.ensures

pub keep_all-requires-clause-many : goal.keep_all-requires-clause-many
keep_all-requires-clause-many c =
    let group : c.as_slice-group.result.now ≡ numbers_at c.args.edit.now.plan.now.merged c.group_at-places.result.now = search rules in
    many_signed c.args.edit.now.sources.now c.args.edit.now.plan.now _ c.group_at-places.result.now c.as_slice-group.result.now c.args.signatures.now c.args.signatures.now c.group_at-places.ensures group c.requires.signatures refl

pub keep_all-requires-clause-within : goal.keep_all-requires-clause-within
keep_all-requires-clause-within c =
    let group : c.as_slice-group.result.now ≡ numbers_at c.args.edit.now.plan.now.merged c.group_at-places.result.now = search rules in
    let low = places_low c.args.edit.now.sources.now c.args.edit.now.plan.now _ c.group_at-places.result.now c.requires.edit.plan c.group_at-places.ensures in
    group_low c.args.edit.now.sources.now c.args.edit.now.plan.now c.group_at-places.result.now c.as_slice-group.result.now c.args.slots.now.items c.requires.edit.plan c.requires.merged.to.right.many low group

pub returns-clause-merged : goal.returns-clause-merged
returns-clause-merged c =
    let group : c.as_slice-group.result.now ≡ numbers_at c.args.edit.now.plan.now.merged c.group_at-places.result.now = search rules in
    merged_here c.args.edit.now.sources.now c.args.edit.now.plan.now c.args.wave c.args.i c.group_at-places.result.now c.args.slots.now.items _ c.group_at-places.ensures c.requires.merged
    (kept_by c.args.edit.now.sources.now c.args.edit.now.plan.now _ c.group_at-places.result.now c.as_slice-group.result.now c.args.slots.now.items _ c.args.signatures.now c.args.signatures.now c.requires.edit.plan c.requires.merged.to.right c.group_at-places.ensures group c.requires.signatures refl c.in_ok-keep_all.ensures.put)

pub keep_all-requires-clause-from : goal.keep_all-requires-clause-from
keep_all-requires-clause-from c = c.requires.edit.come.many ∙ sym c.requires.merged.to.right.many
