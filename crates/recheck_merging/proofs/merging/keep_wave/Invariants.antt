use Rattle.std.proofs.Common.{◌≡◌, [], length, take, get_or}
use Rattle.recheck_merging.specs.Merging.{AreMergedIn}
use Rattle.recheck_merging.specs.Still.{AreOld, lacking}
use Rattle.recheck_merging.proofs.merging.keep_wave.Given as goal

-- as far as the wave is merged
abbrev pub invariant-loop-i : goal.invariant-loop-i
invariant-loop-i l = record {
  merged : AreMergedIn l.edit.sources.now l.edit.plan.now l.wave (take l.i (get_or l.edit.plan.now.waves l.wave [])) l.slots.items;
  same : AreOld l.edit.was.now.signatures.items l.edit.from.now l.slots.items l.same;
  next : l.next ≡ length (lacking (take l.i (get_or l.edit.plan.now.waves l.wave [])) (take l.i l.olds));
}
