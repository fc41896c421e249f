use Rattle.check_phases.specs.Sourced.{paths_in, view_in}
use Rattle.recheck_merging.proofs.Among.{within_imports}
use Rattle.recheck_merging.proofs.Plans.{merge_low, plan_of_touched}
use Rattle.recheck_merging.proofs.planning.plan_of.Goals as goal

pub merge_set-requires-clause-within : goal.merge_set-requires-clause-within
merge_set-requires-clause-within c = within_imports (view_in c.args.sources.now) (paths_in c.args.sources.now) c.args.edges.now c.requires.edges

pub plan_for-requires-clause-within : goal.plan_for-requires-clause-within
plan_for-requires-clause-within c = merge_low c.args.sources.now c.args.edges.now c.args.touched.now c.in_ok-merged.merged c.requires.sources c.requires.edges c.requires.touched c.in_ok-merged.ensures

pub returns : goal.returns
returns c =
    plan_of_touched c.args.sources.now c.args.edges.now c.args.touched.now c.in_ok-merged.merged c.in_ok-plan.plan c.requires.sources c.requires.edges c.requires.touched c.in_ok-merged.ensures c.in_ok-plan.ensures.plan c.in_ok-plan.ensures.merged
