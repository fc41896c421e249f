use Rattle.std.proofs.Common.{◌≡◌, map, take}
use Rattle.type_terms.specs.Join.{widened}
use Rattle.literal_reads.proofs.types.array_type.Given as goal

abbrev pub invariant-loop-i : goal.invariant-loop-i
invariant-loop-i l = l.wide ≡ map widened (take l.i l.types)
