use Rattle.std.proofs.Common.{◌≡◌, [], sym, ap, ◌∙◌, rules}
use Rattle.check_phases.proofs.Lists.{value_at}
use Rattle.recheck_merging.specs.Plans.{numbers_at}
use Rattle.recheck_merging.specs.Still.{are_still}
use Rattle.recheck_merging.proofs.Groups.{component_low, places_low}
use Rattle.recheck_merging.proofs.Outside.{group_within}
use Rattle.recheck_merging.proofs.Unmoved.{component_signed, group_from, group_old}
use Rattle.recheck_merging.proofs.still.component_old.Goals as goal

pub group_at-places-requires-clause-component : goal.group_at-places-requires-clause-component
group_at-places-requires-clause-component c = component_low c.args.edit.now.sources.now c.args.edit.now.plan.now c.args.wave c.args.i c.requires.edit.plan c.requires.wave c.requires.within

pub are_still-requires-clause-low : goal.are_still-requires-clause-low
are_still-requires-clause-low c = places_low c.args.edit.now.sources.now c.args.edit.now.plan.now _ c.group_at-places.result.now c.requires.edit.plan c.group_at-places.ensures

pub returns-then-not-are_still-clause-kept : goal.returns-then-not-are_still-clause-kept
returns-then-not-are_still-clause-kept c =
    c.if-not-are_still.ensures ∙ ap (are_still c.args.edit.now.touched.now c.args.same.now c.args.edit.now.plan.now) (value_at c.args.edit.now.plan.now.components _ c.group_at-places.result.now [] c.group_at-places.ensures)

pub numbers_of-requires : goal.numbers_of-requires
numbers_of-requires c = places_low c.args.edit.now.sources.now c.args.edit.now.plan.now _ c.group_at-places.result.now c.requires.edit.plan c.group_at-places.ensures

pub old_of-requires-clause-low : goal.old_of-requires-clause-low
old_of-requires-clause-low c =
    let group : c.as_slice.result.now ≡ numbers_at c.args.edit.now.plan.now.merged c.group_at-places.result.now = search rules in
    let low = places_low c.args.edit.now.sources.now c.args.edit.now.plan.now _ c.group_at-places.result.now c.requires.edit.plan c.group_at-places.ensures in
    group_from c.args.edit.now c.requires.edit c.as_slice.result.now (group_within c.args.edit.now.sources.now c.args.edit.now.plan.now c.group_at-places.result.now c.as_slice.result.now c.requires.edit.plan low group)

pub old_of-requires-clause-old : goal.old_of-requires-clause-old
old_of-requires-clause-old c =
    let group : c.as_slice.result.now ≡ numbers_at c.args.edit.now.plan.now.merged c.group_at-places.result.now = search rules in
    let low = places_low c.args.edit.now.sources.now c.args.edit.now.plan.now _ c.group_at-places.result.now c.requires.edit.plan c.group_at-places.ensures in
    group_old c.args.edit.now c.requires.edit c.args.same.now _ c.group_at-places.result.now c.as_slice.result.now c.group_at-places.ensures (sym c.if-not-are_still.ensures) group
    (group_within c.args.edit.now.sources.now c.args.edit.now.plan.now c.group_at-places.result.now c.as_slice.result.now c.requires.edit.plan low group)

pub returns-clause-kept : goal.returns-clause-kept
returns-clause-kept c =
    c.if-not-are_still.ensures ∙ ap (are_still c.args.edit.now.touched.now c.args.same.now c.args.edit.now.plan.now) (value_at c.args.edit.now.plan.now.components _ c.group_at-places.result.now [] c.group_at-places.ensures)

pub returns-clause-right : goal.returns-clause-right
returns-clause-right c =
    let group : c.as_slice.result.now ≡ numbers_at c.args.edit.now.plan.now.merged c.group_at-places.result.now = search rules in
    component_signed c.a_job_tells_the_program.ensures c.args.edit.now c.requires.edit c.args.same.now c.args.slots.now c.args.wave c.args.i c.group_at-places.result.now c.as_slice.result.now c.in_ok-olds.olds.items c.requires.wave c.requires.within
    c.group_at-places.ensures (sym c.if-not-are_still.ensures) c.requires.merged c.requires.same group c.in_ok-olds.ensures
