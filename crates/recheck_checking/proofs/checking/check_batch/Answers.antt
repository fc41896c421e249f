use Rattle.std.proofs.Common.{ℕ, length, map, refl, ap, subst, ◌∙◌}
use Rattle.std.specs.Prelude.{slice_range}
use Rattle.std.proofs.lemmas.Result.{on_ok_weaker, err_from_is_err_and}
use Rattle.recheck_merging.specs.analyst.specs.Work.{IsWithin, done, checks_of}
use Rattle.recheck_merging.specs.work_totals.specs.Totals.{total}
use Rattle.recheck_merging.specs.work_totals.proofs.Totals.{done_anyhow}
use Rattle.recheck_merging.specs.check_phases.proofs.Lists.{zip_length}
use Rattle.recheck_checking.specs.Checking.{IsCheckedBy}
use Rattle.recheck_checking.proofs.Puts.{many_batch, batch_told, batch_within, batch_slots, batch_checked}
use Rattle.recheck_checking.proofs.checking.check_batch.Goals as goal

pub errors_of-requires-clause-told : goal.errors_of-requires-clause-told
errors_of-requires-clause-told g c κs within =
    batch_told c.args.sources.now c.args.signatures.now c.args.checked.now c.args.done c.min-end.result (slice_range c.args.checked.now c.args.done c.min-end.result) c.min-end.ensures refl c.requires.begun c.args.table.now.rows c.requires.told

pub errors_of-requires-clause-within : goal.errors_of-requires-clause-within
errors_of-requires-clause-within g c κs within = batch_within c.args.sources.now c.args.signatures.now c.args.checked.now c.args.done c.min-end.result (slice_range c.args.checked.now c.args.done c.min-end.result) c.min-end.ensures refl c.requires.begun c.requires.within

pub keep_all-requires-clause-many : goal.keep_all-requires-clause-many
keep_all-requires-clause-many g c = ap length c.as_slice-errors.ensures.value ∙ zip_length (IsCheckedBy c.args.sources.now c.args.signatures.now) (slice_range c.args.checked.now c.args.done c.min-end.result) c.in_ok-found.found.items c.in_ok-found.ensures.errors

pub keep_all-requires-clause-within : goal.keep_all-requires-clause-within
keep_all-requires-clause-within g c =
    batch_slots c.args.sources.now c.args.signatures.now c.args.checked.now c.args.done c.min-end.result (slice_range c.args.checked.now c.args.done c.min-end.result) c.min-end.ensures refl c.requires.begun c.args.slots.now.items c.requires.within c.requires.checked

pub returns-in_err-found-clause-work : goal.returns-in_err-found-clause-work
returns-in_err-found-clause-work g c =
    let many = many_batch c.args.sources.now c.args.signatures.now c.args.checked.now c.args.done c.min-end.result (slice_range c.args.checked.now c.args.done c.min-end.result) c.min-end.ensures refl c.requires.begun in
    let p = err_from_is_err_and c.from_residual.result c.from_residual.ensures.1 in
    rw p.1 (subst (λ (n : ℕ). IsWithin (total (map g.A.Analyst.work c.args.analysts.now)) (total (map g.A.Analyst.work c.errors_of.new.analysts)) (checks_of n)) many c.in_err-found.ensures.work)

pub returns-clause-checked : goal.returns-clause-checked
returns-clause-checked g c =
    on_ok_weaker c.keep_all.result (λ put.
    batch_checked c.args.sources.now c.args.signatures.now c.args.checked.now c.args.done c.min-end.result (slice_range c.args.checked.now c.args.done c.min-end.result) c.min-end.ensures refl c.requires.begun c.in_ok-found.found.items c.as_slice-errors.result.now c.args.slots.now.items _ c.requires.within
    c.in_ok-found.ensures.errors c.as_slice-errors.ensures.value c.requires.checked put) c.keep_all.ensures

pub returns-clause-work : goal.returns-clause-work
returns-clause-work g c =
    let many = many_batch c.args.sources.now c.args.signatures.now c.args.checked.now c.args.done c.min-end.result (slice_range c.args.checked.now c.args.done c.min-end.result) c.min-end.ensures refl c.requires.begun in
    done_anyhow c.keep_all.result _ (map g.A.Analyst.work c.args.analysts.now) (map g.A.Analyst.work c.errors_of.new.analysts) (c.in_ok-found.ensures.work ∙ ap (λ (n : ℕ). done (total (map g.A.Analyst.work c.args.analysts.now)) (checks_of n)) many)
