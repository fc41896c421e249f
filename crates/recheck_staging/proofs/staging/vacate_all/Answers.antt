use Rattle.std.proofs.Common.{◌∙◌, arith}
use Rattle.recheck_staging.proofs.Steps.{staging_then, vacated_more}
use Rattle.recheck_staging.proofs.staging.vacate_all.Goals as goal

pub loop-i-preserved : goal.loop-i-preserved
loop-i-preserved g c = record {
  staged = vacated_more c.args.rows.now c.loop-i.i _ _ _ _ (omega arith) c.loop-i.invariant.staged c.in_ok-vacate.ensures.ok;
  staging = staging_then _ _ _ c.loop-i.invariant.staging c.vacate.ensures.staging;
  is_open = c.vacate.ensures.is_open;
  size = c.vacate.ensures.size ∙ c.loop-i.invariant.size;
  told = c.vacate.ensures.told ∙ c.loop-i.invariant.told;
  part = c.vacate.ensures.part ∙ c.loop-i.invariant.part;
}
