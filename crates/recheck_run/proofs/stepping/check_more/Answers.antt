use Rattle.std.proofs.Common.{length, ap, refl, arith}
use Rattle.std.proofs.lemmas.Result.{err_from_is_err_and}
use Rattle.recheck_run.proofs.Goes.{batch_goes_on, batch_failed_on, numbers_low, table_tells, checked_begun, checked_more}
use Rattle.recheck_run.proofs.stepping.check_more.Goals as goal

pub check_batch-requires-clause-told : goal.check_batch-requires-clause-told
check_batch-requires-clause-told g c κs within = table_tells c.args.checking.sources c.args.checking.signatures.items _ _ c.args.checking.checked c.args.checking.table.rows c.as_slice-signatures.ensures.value c.as_slice-numbers.ensures c.requires.checking.told

pub check_batch-requires-clause-within : goal.check_batch-requires-clause-within
check_batch-requires-clause-within g c κs within = numbers_low c.args.checking.sources _ c.args.checking.checked c.as_slice-numbers.ensures c.requires.checking.to_check.within

pub check_batch-requires-clause-checked : goal.check_batch-requires-clause-checked
check_batch-requires-clause-checked g c κs within = checked_begun c.args.checking.sources c.args.checking.signatures.items _ _ c.args.checking.checked c.args.checking.done c.args.checking.errors.items c.as_slice-signatures.ensures.value c.as_slice-numbers.ensures c.requires.checking.errors

pub returns-in_err-check_batch-clause-steps : goal.returns-in_err-check_batch-clause-steps
returns-in_err-check_batch-clause-steps g c =
    let p = err_from_is_err_and c.from_residual.result c.from_residual.ensures.1 in
    rw p.1 (batch_failed_on c.args.base.now c.args.checking c.as_slice-numbers.result.now _ _ c.as_slice-numbers.ensures c.requires.low c.in_err-check_batch.ensures.work)

pub returns-clause-holds : goal.returns-clause-holds
returns-clause-holds g c =
    let is = c.requires.checking in
    let low = c.requires.low in
    let a = c.min-end.ensures in
    let v = ap length c.as_slice-numbers.ensures in
    record {
      listed = is.listed;
      merged = is.merged;
      moved = is.moved;
      to_check = is.to_check;
      told = is.told;
      kept = is.kept;
      errors = checked_more c.args.checking.sources c.args.checking.signatures.items c.as_slice-signatures.result.now c.as_slice-numbers.result.now c.args.checking.checked c.args.checking.done c.min-end.result _ c.as_slice-signatures.ensures.value c.as_slice-numbers.ensures (omega (arith, a)) c.in_ok-check_batch.ensures.checked;
      low = omega (arith, low, a, v);
    }

pub returns-clause-steps : goal.returns-clause-steps
returns-clause-steps g c =
    let a = c.min-end.ensures in
    batch_goes_on c.args.base.now c.args.checking c.as_slice-numbers.result.now
    (record {
      sources = c.args.checking.sources;
      relisted = c.args.checking.relisted;
      signatures = c.args.checking.signatures;
      moved = c.args.checking.moved;
      table = c.args.checking.table;
      checked = c.args.checking.checked;
      done = c.min-end.result;
      errors = c.check_batch.new.slots;
    }) _ _ c.as_slice-numbers.ensures c.requires.low refl (omega (arith, a)) c.in_ok-check_batch.ensures.work
