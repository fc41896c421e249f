use Rattle.std.proofs.Common.{◌≡◌, take}
use Rattle.recheck_merging.specs.Plans.{numbers_at}
use Rattle.recheck_merging.proofs.merging.numbers_of.Given as goal

abbrev pub invariant-loop-i : goal.invariant-loop-i
invariant-loop-i l = l.numbers ≡ numbers_at l.plan.merged (take l.i l.places)
