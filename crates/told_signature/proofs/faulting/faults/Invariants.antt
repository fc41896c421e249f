use Rattle.std.proofs.Common.{◌≡◌, ◌++◌, map, length}
use Rattle.told_signature.specs.Seen.{key_fault}
use Rattle.told_signature.proofs.faulting.faults.Given as goal

abbrev pub invariant-loop-start : goal.invariant-loop-start
invariant-loop-start l = map key_fault l.initial.keys.keys ≡ l.faults ++ map key_fault l.keys.keys

abbrev pub decreases-loop-start : goal.decreases-loop-start
decreases-loop-start l = length l.keys.keys
