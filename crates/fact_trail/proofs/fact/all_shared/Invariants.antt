use Rattle.std.proofs.Common.{◌≡◌, take}
use Rattle.fact_trail.proofs.fact.all_shared.Given as goal

abbrev pub invariant-loop-i : goal.invariant-loop-i
invariant-loop-i l = l.all ≡ take l.i l.types
