use Rattle.std.proofs.Common.{refl, sym, ap, Some, ◌∙◌, get_or, length-set, arith}
use Rattle.check_phases.proofs.Waves.{puts_more, puts_all}
use Rattle.recheck_merging.proofs.Unmoved.{old_set}
use Rattle.recheck_merging.proofs.merging.keep_all.Goals as goal

pub loop-i-preserved : goal.loop-i-preserved
loop-i-preserved c =
    let low = c.requires.within c.loop-i.i 0 c.loop-i-test.true in
    let size = c.loop-i.invariant.size in
    record {
      size = length-set c.loop-i.slots.items _ _ ∙ c.loop-i.invariant.size;
      put = puts_more c.args.group.now c.args.signatures.now c.loop-i.i _ c.index-signatures-i.result c.in_ok-kept.kept c.args.slots.now.items c.loop-i.slots.items _ (omega arith) refl (omega (arith, c.requires.many)) c.index-signatures-i.is c.in_ok-kept.ensures refl c.loop-i.invariant.put;
      same = old_set c.args.edit.now.was.now.signatures.items c.args.edit.now.from.now c.loop-i.slots.items c.loop-i.same (get_or c.args.group.now c.loop-i.i 0) c.in_ok-kept.kept c.is_old.result c.loop-i.invariant.same (omega (arith, low, size)) (λ on. c.is_old.ensures.0 on ∙ ap Some c.get.ensures, λ kept. c.is_old.ensures.1 (kept ∙ ap Some (sym c.get.ensures)));
    }

pub returns-clause-put : goal.returns-clause-put
returns-clause-put c = puts_all c.args.group.now c.args.signatures.now c.loop-i.i c.args.slots.now.items c.loop-i.slots.items (omega arith) c.requires.many c.loop-i.invariant.put
