use Rattle.std.proofs.Common.{refl, ◌∙◌, length-set, arith}
use Rattle.recheck_checking.proofs.Puts.{puts_more, puts_all}
use Rattle.recheck_checking.proofs.checking.keep_all.Goals as goal

pub loop-i-preserved : goal.loop-i-preserved
loop-i-preserved c = record {
  size = length-set c.loop-i.slots.items _ _ ∙ c.loop-i.invariant.size;
  put = puts_more c.args.numbers.now c.args.errors.now c.loop-i.i _ c.index-errors-i.result c.in_ok-kept.kept c.args.slots.now.items c.loop-i.slots.items _ (omega arith) refl (omega (arith, c.requires.many)) c.index-errors-i.is c.in_ok-kept.ensures refl c.loop-i.invariant.put;
}

pub returns : goal.returns
returns c = puts_all c.args.numbers.now c.args.errors.now c.loop-i.i c.args.slots.now.items c.loop-i.slots.items (omega arith) c.requires.many c.loop-i.invariant.put
