use Rattle.std.proofs.Common.{◌≡◌, length, take}
use Rattle.recheck_checking.specs.Keeping.{put_all}
use Rattle.recheck_checking.proofs.checking.keep_all.Given as goal

-- what was put so far
abbrev pub invariant-loop-i : goal.invariant-loop-i
invariant-loop-i l = record {
  size : length l.slots.items ≡ length l.fn.slots.items;
  put : l.slots.items ≡ put_all (take l.i l.numbers) (take l.i l.errors) l.fn.slots.items;
}
