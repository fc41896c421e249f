use Rattle.std.proofs.Common.{length, ap, ◌∙◌}
use Rattle.recheck_run.proofs.Anews.{errors_filled, numbers_low, anew_is}
use Rattle.recheck_run.proofs.staging.results_of.Goals as goal

pub whole_errors-requires : goal.whole_errors-requires
whole_errors-requires c = record { filled = errors_filled c.args.base.now c.args.checking c.requires.base c.requires.checking c.requires.all c.error_laws.ensures.all }

pub flags_of-requires : goal.flags_of-requires
flags_of-requires c = numbers_low c.args.base.now c.args.checking c.requires.base c.requires.checking c.requires.all _ _ c.as_slice-numbers.ensures (c.len-count.ensures ∙ ap (λ r. length r.modules) c.get-root.ensures)

pub returns : goal.returns
returns c =
    anew_is c.args.base.now c.args.checking c.requires.base c.requires.checking c.requires.all c.error_laws.ensures.all c.errors_by_reach.ensures.one c.in_ok-errors.errors c.in_ok-errors.ensures c.in_ok-checked.checked c.in_ok-fresh.fresh c.as_slice-numbers.result.now
    c.len-count.result c.in_ok-checked.ensures c.as_slice-numbers.ensures (c.len-count.ensures ∙ ap (λ r. length r.modules) c.get-root.ensures) (c.in_ok-fresh.ensures.items ∙ c.as_slice-flags.ensures.value)
