use Rattle.std.proofs.Common.{ℕ, List, length, sum_by, ap, ◌∙◌, arith}
use Rattle.check_values.specs.declared.faults.Errs.{Errs}
use Rattle.heap_core.specs.Transactions.{all_staged}
use Rattle.committed_results.specs.recheck_staging.specs.Staging.{changes_of}
use Rattle.recheck_checking.specs.edited_root.proofs.Users.{many_fresh}
use Rattle.recheck_run.specs.Stages.{old_of}
use Rattle.recheck_run.proofs.Anews.{few_checked}
use Rattle.recheck_run.proofs.Rests.{keeps_the_rest, own_root}
use Rattle.recheck_run.proofs.staging.stage_all.Goals as goal

pub overflow_cast-checked : goal.overflow_cast-checked
overflow_cast-checked g c = (let few = few_checked c.args.base.now c.args.checking c.requires.base.base c.requires.checking c.requires.all in omega (arith, few))

pub stage_anew-requires-clause-numbered : goal.stage_anew-requires-clause-numbered
stage_anew-requires-clause-numbered g c = c.requires.base.numbered

pub stage_anew-requires-clause-root : goal.stage_anew-requires-clause-root
stage_anew-requires-clause-root g c = own_root _ c.args.base.now _ c.requires.base c.in_ok-results.ensures.root

pub stage_anew-requires-clause-kept : goal.stage_anew-requires-clause-kept
stage_anew-requires-clause-kept g c = keeps_the_rest _ c.args.base.now _ _ c.requires.base c.in_ok-results.ensures (many_fresh (old_of c.args.base.now) c.args.base.now.root c.args.base.now.fresh.items c.requires.base.base.fresh)

pub returns-clause-ready : goal.returns-clause-ready
returns-clause-ready g c = record {
  made = c.in_ok-results.results.made;
  anew = c.in_ok-results.results.anew;
  are = c.in_ok-results.ensures;
  staged = c.in_ok-stage_anew.ensures.ok ∙ ap (λ (l : List ℕ). all_staged (changes_of c.in_ok-results.results.made c.in_ok-results.results.anew l) (g.W.HeapWriter.meaning c.args.writer.now)) c.as_slice-freed.ensures.value;
  state = c.in_ok-stage_anew.ensures.state;
  fit = c.in_ok-stage_anew.ensures.fit (∣ c.in_ok-results.ensures.are ∣₁);
  count = c.in_ok-errors.ensures ∙ ap (λ (l : List Errs). sum_by (λ (e : Errs). length e.faults) l) c.as_slice-all.ensures.value;
}
