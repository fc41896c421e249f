use Rattle.std.proofs.Common.{◌∙◌, length-set, arith}
use Rattle.recheck_checking.proofs.Clears.{more_cleared, all_cleared}
use Rattle.recheck_checking.proofs.keeping.clear_all.Goals as goal

pub loop-i-preserved : goal.loop-i-preserved
loop-i-preserved c = record {
  size = length-set c.loop-i.slots.items _ _ ∙ c.loop-i.invariant.size;
  cleared = more_cleared c.args.numbers.now c.loop-i.i c.args.slots.now.items c.loop-i.slots.items (omega arith) c.loop-i.invariant.cleared;
}

pub returns : goal.returns
returns c = all_cleared c.args.numbers.now c.loop-i.i c.args.slots.now.items c.loop-i.slots.items (omega arith) c.loop-i.invariant.cleared
