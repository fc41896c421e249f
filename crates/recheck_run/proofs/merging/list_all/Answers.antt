use Rattle.recheck_run.proofs.Listing.{rising_here, few_here, from_here, fresh_here, parsed_here, kept_here, listed_few, touched_low, flags_low, plan_low, are_listed, is_merging}
use Rattle.recheck_run.proofs.merging.list_all.Goals as goal

pub listed_sources-requires-clause-rising : goal.listed_sources-requires-clause-rising
listed_sources-requires-clause-rising c = rising_here c.args.base.now c.requires.base _ c.in_ok-root.ensures

pub listed_sources-requires-clause-few : goal.listed_sources-requires-clause-few
listed_sources-requires-clause-few c = few_here c.args.base.now c.requires.base _ c.in_ok-root.ensures

pub listed_sources-requires-clause-from : goal.listed_sources-requires-clause-from
listed_sources-requires-clause-from c = from_here c.args.base.now c.requires.base _ c.in_ok-root.ensures _ c.as_slice-from.ensures.value

pub listed_sources-requires-clause-fresh : goal.listed_sources-requires-clause-fresh
listed_sources-requires-clause-fresh c = fresh_here c.args.base.now c.requires.base _ c.in_ok-root.ensures _ c.as_slice-fresh.ensures.value

pub listed_sources-requires-clause-parsed : goal.listed_sources-requires-clause-parsed
listed_sources-requires-clause-parsed c = parsed_here c.args.base.now c.requires.base _ c.in_ok-root.ensures _ c.requires.holds.0

pub listed_sources-requires-clause-kept : goal.listed_sources-requires-clause-kept
listed_sources-requires-clause-kept c = kept_here c.args.base.now _ _ _ c.as_slice-from.ensures.value c.as_slice-fresh.ensures.value c.requires.holds.1

pub plan_touched-requires-clause-few : goal.plan_touched-requires-clause-few
plan_touched-requires-clause-few c =
    listed_few c.args.base.now c.requires.base c.in_ok-listed.listed _ c.as_slice-from.result.now c.as_slice-touched.result.now c.in_ok-root.ensures c.as_slice-from.ensures.value c.as_slice-touched.ensures c.in_ok-listed.ensures.root c.in_ok-listed.ensures.sources
    c.in_ok-listed.ensures.touched.1

pub plan_touched-requires-clause-touched : goal.plan_touched-requires-clause-touched
plan_touched-requires-clause-touched c =
    touched_low c.args.base.now c.requires.base c.in_ok-listed.listed _ c.as_slice-from.result.now c.as_slice-touched.result.now c.in_ok-root.ensures c.as_slice-from.ensures.value c.as_slice-touched.ensures c.in_ok-listed.ensures.root c.in_ok-listed.ensures.sources
    c.in_ok-listed.ensures.touched.1

pub kept_signatures-requires : goal.kept_signatures-requires
kept_signatures-requires c = record {
  within =
      plan_low c.args.base.now c.requires.base c.in_ok-listed.listed _ c.as_slice-from.result.now c.as_slice-touched.result.now c.in_ok-root.ensures c.as_slice-from.ensures.value c.as_slice-touched.ensures c.in_ok-listed.ensures.root c.in_ok-listed.ensures.sources
      c.in_ok-listed.ensures.touched.1 c.reach_laws.ensures.touched _ c.in_ok-planned.ensures.plan;
}

pub flags_of-requires : goal.flags_of-requires
flags_of-requires c =
    flags_low c.args.base.now c.requires.base c.in_ok-listed.listed _ c.as_slice-from.result.now c.as_slice-touched.result.now c.in_ok-root.ensures c.as_slice-from.ensures.value c.as_slice-touched.ensures c.in_ok-listed.ensures.root c.in_ok-listed.ensures.sources
    c.in_ok-listed.ensures.touched.1 c.reach_laws.ensures.touched

pub returns-clause-merging : goal.returns-clause-merging
returns-clause-merging c =
    let are =
    are_listed c.args.base.now c.requires.base c.in_ok-listed.listed _ c.as_slice-from.result.now c.as_slice-touched.result.now c.in_ok-root.ensures c.as_slice-from.ensures.value c.as_slice-touched.ensures c.in_ok-listed.ensures.root c.in_ok-listed.ensures.sources
    c.in_ok-listed.ensures.touched.1 c.args.parses.items c.in_ok-listed.ensures.parses c.requires.holds.1 c.in_ok-listed.ensures.relisted in
    is_merging c.args.base.now c.requires.base c.in_ok-listed.listed _ c.as_slice-from.result.now c.as_slice-touched.result.now c.in_ok-root.ensures c.as_slice-from.ensures.value c.as_slice-touched.ensures c.in_ok-listed.ensures.root c.in_ok-listed.ensures.sources
    c.in_ok-listed.ensures.touched.1 c.kept_are_right.ensures c.reach_laws.ensures.touched are c.in_ok-listed.ensures.changed _ _ _ _ _ c.as_slice-was.result.now c.as_slice-was.ensures.value c.in_ok-planned.ensures.plan c.in_ok-planned.ensures.edges
    c.in_ok-slots.ensures c.in_ok-flags.ensures (c.in_ok-same.ensures.items_if_clones_equal (λ y e. e))
