use Rattle.std.proofs.Common.{◌≡◌, ◌∙◌, rules}
use Rattle.job_ends.specs.Jobs.{job_view}
use Rattle.recheck_merging.specs.Plans.{numbers_at, edges_at}
use Rattle.recheck_merging.proofs.Groups.{component_low, places_low, places_within}
use Rattle.recheck_merging.proofs.Merged.{job_here, size_here}
use Rattle.recheck_merging.proofs.Outside.{group_within}
use Rattle.recheck_merging.proofs.Rising.{job_rises}
use Rattle.recheck_merging.proofs.merging.component_job.Goals as goal

pub group_at-places-requires-clause-component : goal.group_at-places-requires-clause-component
group_at-places-requires-clause-component c = component_low c.args.sources.now c.args.plan.now c.args.wave c.args.i c.requires.plan c.requires.wave c.requires.within

pub numbers_of-requires : goal.numbers_of-requires
numbers_of-requires c = places_low c.args.sources.now c.args.plan.now _ c.group_at-places.result.now c.requires.plan c.group_at-places.ensures

pub job_of-requires-clause-within : goal.job_of-requires-clause-within
job_of-requires-clause-within c = places_within c.args.sources.now c.args.plan.now _ c.group_at-places.result.now c.requires.plan c.group_at-places.ensures

pub job_of-requires-clause-low : goal.job_of-requires-clause-low
job_of-requires-clause-low c =
    let group : c.as_slice-group.result.now ≡ numbers_at c.args.plan.now.merged c.group_at-places.result.now = search rules in
    let low = places_low c.args.sources.now c.args.plan.now _ c.group_at-places.result.now c.requires.plan c.group_at-places.ensures in
    group_within c.args.sources.now c.args.plan.now c.group_at-places.result.now c.as_slice-group.result.now c.requires.plan low group

pub asked_job-requires : goal.asked_job-requires
asked_job-requires c =
    let edges = edges_at c.args.plan.now.edges.items c.group_at-places.result.now in
    job_rises c.args.sources.now c.args.slots.now c.as_slice-group.result.now edges (job_view c.in_ok-whole.whole) c.requires.sources c.requires.right c.in_ok-whole.ensures.job

pub returns-clause-job : goal.returns-clause-job
returns-clause-job c =
    let group : c.as_slice-group.result.now ≡ numbers_at c.args.plan.now.merged c.group_at-places.result.now = search rules in
    job_here c.args.sources.now c.args.plan.now _ c.args.slots.now c.group_at-places.result.now c.as_slice-group.result.now (job_view c.in_ok-whole.whole) (job_view c.in_ok-job.job) c.group_at-places.ensures group c.in_ok-whole.ensures.job
    c.in_ok-job.ensures.job

pub returns-clause-many : goal.returns-clause-many
returns-clause-many c =
    let group : c.as_slice-group.result.now ≡ numbers_at c.args.plan.now.merged c.group_at-places.result.now = search rules in
    size_here c.args.plan.now _ _ c.group_at-places.result.now c.as_slice-group.result.now c.group_at-places.ensures group (c.in_ok-job.ensures.many ∙ c.in_ok-whole.ensures.many)
