use Rattle.std.proofs.Common.{◌≡◌, map, drop}
use Rattle.fault_sets.specs.Keys.{entry_fault, AreNamed, put_before}
use Rattle.fault_sets.proofs.add_all.Given as goal

abbrev pub invariant-loop-i : goal.invariant-loop-i
invariant-loop-i l = record {
  named : AreNamed l.keyed.entries;
  faults : map entry_fault l.keyed.entries ≡ put_before (drop l.i l.faults) (map entry_fault l.initial.keyed.entries);
}
