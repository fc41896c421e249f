use Rattle.std.proofs.Common.{◌≡◌, map, drop}
use Rattle.std.specs.List.{flat_map}
use Rattle.check_values.specs.FaultOrder.{faults_in_order}
use Rattle.local_signatures.specs.Faults.{fault_of}
use Rattle.named_rows.specs.Seen.{seen}
use Rattle.told_signature.specs.Seen.{named_in, said_view, key_fault}
use Rattle.told_signature.proofs.faulting.keys_of.Given as goal

abbrev pub invariant-loop-i : goal.invariant-loop-i
invariant-loop-i l = map key_fault l.keys.keys ≡ faults_in_order (flat_map (fault_of l.spans) (seen (said_view (named_in l.named.entries)) (drop l.i l.exports)))
