use Rattle.std.proofs.Common.{◌≡◌, ◌++◌, map, length}
use Rattle.fault_sets.specs.Keys.{entry_fault}
use Rattle.fault_sets.proofs.listed.Given as goal

abbrev pub invariant-loop-key : goal.invariant-loop-key
invariant-loop-key l = map entry_fault l.fn.keyed.entries ≡ l.all ++ map entry_fault l.keyed.entries

abbrev pub decreases-loop-key : goal.decreases-loop-key
decreases-loop-key l = length l.keyed.entries
