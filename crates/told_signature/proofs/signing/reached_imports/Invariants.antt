use Rattle.std.proofs.Common.{◌≡◌, filter, take}
use Rattle.std.specs.Ordering.{nat_cmp}
use Rattle.std.specs.Cmp.Lexicographic.{slice_cmp}
use Rattle.std.specs.BTreeSet.{contains}
use Rattle.told_signature.proofs.signing.reached_imports.Given as goal

abbrev pub invariant-loop-i : goal.invariant-loop-i
invariant-loop-i l = l.kept ≡ filter (λ row. contains (slice_cmp nat_cmp) l.names row.local) (take l.i l.imports)
