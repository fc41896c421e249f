use Rattle.std.proofs.Common.{refl, arith}
use Rattle.check_phases.proofs.Merges.{outside_more}
use Rattle.recheck_merging.proofs.merging.add_outside.Goals as goal

pub loop-i-preserved : goal.loop-i-preserved
loop-i-preserved c = outside_more c.args.sources.now c.args.slots.now c.args.edges.now c.loop-i.i _ c.args.outside.now _ _ (omega arith) refl c.loop-i.invariant c.in_ok-add_made.ensures
