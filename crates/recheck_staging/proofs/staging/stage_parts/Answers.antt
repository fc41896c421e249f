use Rattle.std.proofs.Common.{◌∙◌, arith}
use Rattle.recheck_staging.proofs.Steps.{staging_then, flagged_more}
use Rattle.recheck_staging.proofs.staging.stage_parts.Goals as goal

pub loop-i-preserved : goal.loop-i-preserved
loop-i-preserved g c = record {
  staged = flagged_more g.P.Part.place g.P.Part.put c.args.modules.now c.args.parts.now c.args.flags.now c.loop-i.i c.index-modules-i.result c.index-parts-i.result _ _ _ _ (omega arith) c.requires.parts c.requires.flags c.index-modules-i.is c.index-parts-i.is
      c.loop-i.invariant.staged c.in_ok-stage_one.ensures.ok;
  staging = staging_then _ _ _ c.loop-i.invariant.staging c.stage_one.ensures.staging;
  is_open = c.stage_one.ensures.is_open;
  size = c.stage_one.ensures.size ∙ c.loop-i.invariant.size;
  told = c.stage_one.ensures.told ∙ c.loop-i.invariant.told;
  part = c.stage_one.ensures.part ∙ c.loop-i.invariant.part;
}
