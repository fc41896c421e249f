use Rattle.std.proofs.Common.{◌≡◌, true, take}
use Rattle.recheck_merging.specs.Still.{are_still}
use Rattle.recheck_merging.proofs.still.are_still.Given as goal

-- so far they are
abbrev pub invariant-loop-i : goal.invariant-loop-i
invariant-loop-i l = are_still l.edit.touched.now l.same l.edit.plan.now (take l.i l.places) ≡ true
