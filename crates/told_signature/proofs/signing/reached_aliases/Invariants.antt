use Rattle.std.proofs.Common.{◌≡◌, ◌++◌, filter, length}
use Rattle.std.specs.Ordering.{nat_cmp}
use Rattle.std.specs.Cmp.Lexicographic.{slice_cmp}
use Rattle.std.specs.BTreeSet.{contains}
use Rattle.told_signature.proofs.signing.reached_aliases.Given as goal

abbrev pub invariant-loop-name : goal.invariant-loop-name
invariant-loop-name l = filter (λ row. contains (slice_cmp nat_cmp) l.names row.0) l.initial.aliases.entries ≡ l.kept ++ filter (λ row. contains (slice_cmp nat_cmp) l.names row.0) l.aliases.entries

abbrev pub decreases-loop-name : goal.decreases-loop-name
decreases-loop-name l = length l.aliases.entries
