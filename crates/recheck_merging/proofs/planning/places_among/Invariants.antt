use Rattle.std.proofs.Common.{◌≡◌, take}
use Rattle.recheck_merging.specs.Inner.{placed}
use Rattle.recheck_merging.proofs.planning.places_among.Given as goal

abbrev pub invariant-loop-i : goal.invariant-loop-i
invariant-loop-i l = l.list ≡ placed l.places (take l.i l.numbers)
