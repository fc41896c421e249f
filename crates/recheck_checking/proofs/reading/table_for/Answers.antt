use Rattle.std.proofs.Common.{ℕ, List, All, ◌<◌, length, sym, ap, ◌∙◌, subst}
use Rattle.std.proofs.lemmas.Result.{IfOk-weaker}
use Rattle.flow_values.specs.Path.{IsRising}
use Rattle.check_values.specs.Roots.{paths_of_rows}
use Rattle.check_values.specs.declared.root.RootRow.{RootRow}
use Rattle.recheck_merging.specs.check_job.specs.signature_table.specs.declared.table.SignatureTable.{SignatureTable}
use Rattle.recheck_merging.specs.check_phases.proofs.Merges.{many_lists}
use Rattle.recheck_checking.proofs.Signed.{table_tells}
use Rattle.recheck_checking.proofs.reading.table_for.Goals as goal

pub signatures_for-requires-clause-rising : goal.signatures_for-requires-clause-rising
signatures_for-requires-clause-rising c = subst (λ (ms : List RootRow). IsRising (paths_of_rows ms)) (sym c.modules_of-modules.ensures) c.requires.sources.rising

pub signatures_for-requires-clause-many : goal.signatures_for-requires-clause-many
signatures_for-requires-clause-many c = c.requires.many ∙ ap length (sym c.modules_of-modules.ensures)

pub signatures_for-requires-clause-within : goal.signatures_for-requires-clause-within
signatures_for-requires-clause-within c =
    let many = ap length c.as_slice-lists.ensures.value ∙ many_lists c.args.sources.now c.requires.sources in
    subst (λ (n : ℕ). All (λ x. x < n) c.args.checked.now) (sym many) c.requires.within

pub returns : goal.returns
returns c =
    IfOk-weaker c.new.result _ _ (λ table same. table_tells c.args.sources.now c.args.signatures.now c.args.checked.now c.modules_of-modules.result.now c.as_slice-lists.result.now c.in_ok-rows.rows table.rows c.modules_of-modules.ensures c.as_slice-lists.ensures.value c.in_ok-rows.ensures
    (ap (λ (t : SignatureTable). t.rows) same ∙ c.in_ok-table.ensures)) c.new.ensures
