use Rattle.std.proofs.Common.{◌≡◌, true, false, get_or, take}
use Rattle.std.specs.List.{list_all}
use Rattle.recheck_merging.proofs.still.all_on.Given as goal

-- so far they are on
abbrev pub invariant-loop-i : goal.invariant-loop-i
invariant-loop-i l = list_all (λ y. get_or l.flags y false) (take l.i l.numbers) ≡ true
