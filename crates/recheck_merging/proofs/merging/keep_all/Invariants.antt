use Rattle.std.proofs.Common.{◌≡◌, length, take}
use Rattle.check_phases.specs.Merging.{put_all}
use Rattle.recheck_merging.specs.Still.{AreOld}
use Rattle.recheck_merging.proofs.merging.keep_all.Given as goal

-- what was put so far
abbrev pub invariant-loop-i : goal.invariant-loop-i
invariant-loop-i l = record {
  size : length l.slots.items ≡ length l.fn.slots.items;
  put : l.slots.items ≡ put_all (take l.i l.group) (take l.i l.signatures) l.fn.slots.items;
  same : AreOld l.edit.was.now.signatures.items l.edit.from.now l.slots.items l.same;
}
