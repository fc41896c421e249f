use Rattle.std.proofs.Common.{refl}
use Rattle.recheck_run.proofs.Goes.{checks_begin}
use Rattle.recheck_run.proofs.Planned.{filled}
use Rattle.recheck_run.proofs.Begun.{few_modules, merged_all, changed_low, from_all, plan_low, leading_low, rest_here, same_here, many_moved, leads_here, edges_here, affected_here, checked_low, numbers_low, many_all, checking_is}
use Rattle.recheck_run.proofs.checking.begin_checks.Goals as goal

pub whole_signatures-requires : goal.whole_signatures-requires
whole_signatures-requires c = record { filled = filled c.args.base.now c.args.merging c.requires.base c.requires.merging c.requires.all c.reach_laws.ensures.touched c.waves_make_all.ensures }

pub moved_signatures-requires-clause-within : goal.moved_signatures-requires-clause-within
moved_signatures-requires-clause-within c =
    plan_low c.args.base.now c.args.merging c.requires.base c.requires.merging c.requires.all c.reach_laws.ensures.touched c.waves_make_all.ensures c.in_ok-signatures.signatures.items c.in_ok-signatures.ensures c.as_slice-all.result.now c.as_slice-all.ensures.value
    c.as_slice-from.result.now c.as_slice-from.ensures.value c.as_slice-merged.result.now c.as_slice-merged.ensures

pub moved_signatures-requires-clause-many : goal.moved_signatures-requires-clause-many
moved_signatures-requires-clause-many c =
    from_all c.args.base.now c.args.merging c.requires.base c.requires.merging c.requires.all c.reach_laws.ensures.touched c.waves_make_all.ensures c.in_ok-signatures.signatures.items c.in_ok-signatures.ensures c.as_slice-all.result.now c.as_slice-all.ensures.value
    c.as_slice-from.result.now c.as_slice-from.ensures.value

pub moved_signatures-requires-clause-rest : goal.moved_signatures-requires-clause-rest
moved_signatures-requires-clause-rest c =
    rest_here c.args.base.now c.args.merging c.requires.base c.requires.merging c.requires.all c.reach_laws.ensures.touched c.waves_make_all.ensures c.in_ok-signatures.signatures.items c.in_ok-signatures.ensures c.as_slice-all.result.now c.as_slice-all.ensures.value
    c.as_slice-from.result.now c.as_slice-from.ensures.value c.reach_laws.ensures.rest c.as_slice-was.result.now c.as_slice-merged.result.now c.as_slice-was.ensures.value c.as_slice-merged.ensures

pub moved_signatures-requires-clause-same : goal.moved_signatures-requires-clause-same
moved_signatures-requires-clause-same c =
    same_here c.args.base.now c.args.merging c.requires.base c.requires.merging c.requires.all c.reach_laws.ensures.touched c.waves_make_all.ensures c.in_ok-signatures.signatures.items c.in_ok-signatures.ensures c.as_slice-all.result.now c.as_slice-all.ensures.value
    c.as_slice-from.result.now c.as_slice-from.ensures.value c.as_slice-was.result.now c.as_slice-known.result.now c.as_slice-was.ensures.value c.as_slice-known.ensures.value

pub to_check-requires-clause-few : goal.to_check-requires-clause-few
to_check-requires-clause-few c =
    few_modules c.args.base.now c.args.merging c.requires.base c.requires.merging c.requires.all c.reach_laws.ensures.touched c.waves_make_all.ensures c.in_ok-signatures.signatures.items c.in_ok-signatures.ensures c.as_slice-all.result.now c.as_slice-all.ensures.value

pub to_check-requires-clause-merged : goal.to_check-requires-clause-merged
to_check-requires-clause-merged c =
    merged_all c.args.base.now c.args.merging c.requires.base c.requires.merging c.requires.all c.reach_laws.ensures.touched c.waves_make_all.ensures c.in_ok-signatures.signatures.items c.in_ok-signatures.ensures c.as_slice-all.result.now c.as_slice-all.ensures.value

pub to_check-requires-clause-moved : goal.to_check-requires-clause-moved
to_check-requires-clause-moved c =
    many_moved c.args.base.now c.args.merging c.requires.base c.requires.merging c.requires.all c.reach_laws.ensures.touched c.waves_make_all.ensures c.in_ok-signatures.signatures.items c.in_ok-signatures.ensures c.as_slice-all.result.now c.as_slice-all.ensures.value
    c.as_slice-from.result.now c.as_slice-from.ensures.value c.as_slice-was.result.now c.as_slice-was.ensures.value c.in_ok-moved.moved.items c.in_ok-moved.ensures c.as_slice-flags.result.now c.as_slice-flags.ensures.value

pub to_check-requires-clause-leading : goal.to_check-requires-clause-leading
to_check-requires-clause-leading c =
    leads_here c.args.base.now c.args.merging c.requires.base c.requires.merging c.requires.all c.reach_laws.ensures.touched c.waves_make_all.ensures c.in_ok-signatures.signatures.items c.in_ok-signatures.ensures c.as_slice-all.result.now c.as_slice-all.ensures.value
    c.as_slice-from.result.now c.as_slice-from.ensures.value c.as_slice-was.result.now c.as_slice-was.ensures.value c.in_ok-moved.moved.items c.in_ok-moved.ensures c.reach_laws.ensures.rest c.as_slice-flags.result.now c.as_slice-merged.result.now c.as_slice-flags.ensures.value c.as_slice-merged.ensures

pub to_check-requires-clause-low : goal.to_check-requires-clause-low
to_check-requires-clause-low c =
    leading_low c.args.base.now c.args.merging c.requires.base c.requires.merging c.requires.all c.reach_laws.ensures.touched c.waves_make_all.ensures c.in_ok-signatures.signatures.items c.in_ok-signatures.ensures c.as_slice-all.result.now c.as_slice-all.ensures.value
    c.as_slice-from.result.now c.as_slice-from.ensures.value c.as_slice-merged.result.now c.as_slice-merged.ensures

pub to_check-requires-clause-edges : goal.to_check-requires-clause-edges
to_check-requires-clause-edges c =
    edges_here c.args.base.now c.args.merging c.requires.base c.requires.merging c.requires.all c.reach_laws.ensures.touched c.waves_make_all.ensures c.in_ok-signatures.signatures.items c.in_ok-signatures.ensures c.as_slice-all.result.now c.as_slice-all.ensures.value
    c.as_slice-from.result.now c.as_slice-from.ensures.value c.as_slice-was.result.now c.as_slice-was.ensures.value c.in_ok-moved.moved.items c.in_ok-moved.ensures c.reach_laws.ensures.rest c.as_slice-flags.result.now c.as_slice-imports.result.now c.as_slice-flags.ensures.value c.as_slice-imports.ensures.value

pub to_check-requires-clause-within : goal.to_check-requires-clause-within
to_check-requires-clause-within c =
    changed_low c.args.base.now c.args.merging c.requires.base c.requires.merging c.requires.all c.reach_laws.ensures.touched c.waves_make_all.ensures c.in_ok-signatures.signatures.items c.in_ok-signatures.ensures c.as_slice-all.result.now c.as_slice-all.ensures.value

pub kept_errors-requires : goal.kept_errors-requires
kept_errors-requires c = record {
  within =
      numbers_low c.args.base.now c.args.merging c.requires.base c.requires.merging c.requires.all c.reach_laws.ensures.touched c.waves_make_all.ensures c.in_ok-signatures.signatures.items c.in_ok-signatures.ensures c.as_slice-all.result.now c.as_slice-all.ensures.value
      c.as_slice-from.result.now c.as_slice-from.ensures.value c.as_slice-was.result.now c.as_slice-was.ensures.value c.in_ok-moved.moved.items c.in_ok-moved.ensures c.reach_laws.ensures.checked c.as_slice-flags.result.now c.as_slice-flags.ensures.value
      c.in_ok-checked.checked c.in_ok-checked.ensures c.as_slice-numbers.result.now c.as_slice-numbers.ensures;
}

pub table_for-requires-clause-within : goal.table_for-requires-clause-within
table_for-requires-clause-within c =
    checked_low c.args.base.now c.args.merging c.requires.base c.requires.merging c.requires.all c.reach_laws.ensures.touched c.waves_make_all.ensures c.in_ok-signatures.signatures.items c.in_ok-signatures.ensures c.as_slice-all.result.now c.as_slice-all.ensures.value
    c.as_slice-from.result.now c.as_slice-from.ensures.value c.as_slice-was.result.now c.as_slice-was.ensures.value c.in_ok-moved.moved.items c.in_ok-moved.ensures c.reach_laws.ensures.checked c.as_slice-flags.result.now c.as_slice-flags.ensures.value
    c.in_ok-checked.checked c.in_ok-checked.ensures c.as_slice-numbers.result.now c.as_slice-numbers.ensures

pub table_for-requires-clause-many : goal.table_for-requires-clause-many
table_for-requires-clause-many c =
    many_all c.args.base.now c.args.merging c.requires.base c.requires.merging c.requires.all c.reach_laws.ensures.touched c.waves_make_all.ensures c.in_ok-signatures.signatures.items c.in_ok-signatures.ensures c.as_slice-all.result.now c.as_slice-all.ensures.value

pub returns-clause-checking : goal.returns-clause-checking
returns-clause-checking c =
    checking_is c.args.base.now c.args.merging c.requires.base c.requires.merging c.requires.all c.reach_laws.ensures.touched c.waves_make_all.ensures c.in_ok-signatures.signatures.items c.in_ok-signatures.ensures c.as_slice-all.result.now c.as_slice-all.ensures.value
    c.as_slice-from.result.now c.as_slice-from.ensures.value c.as_slice-was.result.now c.as_slice-was.ensures.value c.in_ok-moved.moved.items c.in_ok-moved.ensures c.reach_laws.ensures.checked c.as_slice-flags.result.now c.as_slice-flags.ensures.value
    c.in_ok-checked.checked c.in_ok-checked.ensures c.each_full.ensures c.error_laws.ensures.full c.error_laws.ensures.kept _ _ _ _ c.as_slice-numbers.result.now c.as_slice-old.result.now _ refl refl refl
    c.as_slice-numbers.ensures c.as_slice-old.ensures.value c.in_ok-errors.ensures c.in_ok-table.ensures

pub returns-clause-also : goal.returns-clause-also
returns-clause-also c =
    checks_begin c.members_add_up.ensures c.args.base.now c.args.merging c.requires.merging
    (record {
      sources = c.args.merging.listed.sources;
      relisted = c.args.merging.listed.relisted;
      signatures = c.in_ok-signatures.signatures;
      moved = c.in_ok-moved.moved;
      table = c.in_ok-table.table;
      checked = c.in_ok-checked.checked;
      done = 0;
      errors = c.in_ok-errors.errors;
    }) c.requires.all c.requires.merging.listed.root
    (affected_here c.args.base.now c.args.merging c.requires.base c.requires.merging c.requires.all c.reach_laws.ensures.touched c.waves_make_all.ensures c.in_ok-signatures.signatures.items c.in_ok-signatures.ensures c.as_slice-all.result.now c.as_slice-all.ensures.value
    c.as_slice-from.result.now c.as_slice-from.ensures.value c.as_slice-was.result.now c.as_slice-was.ensures.value c.in_ok-moved.moved.items c.in_ok-moved.ensures c.reach_laws.ensures.checked c.as_slice-flags.result.now c.as_slice-flags.ensures.value
    c.in_ok-checked.checked c.in_ok-checked.ensures) refl
