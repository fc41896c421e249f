use Rattle.std.proofs.Common.{◌≡◌, ◌++◌, take}
use Rattle.std.specs.List.{flat_map}
use Rattle.check_phases.specs.Merging.{made_at}
use Rattle.recheck_merging.proofs.merging.add_outside.Given as goal

abbrev pub invariant-loop-i : goal.invariant-loop-i
invariant-loop-i l = l.outside ≡ l.fn.outside ++ flat_map (made_at l.sources l.slots) (take l.i l.edges)
