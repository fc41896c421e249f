use Rattle.std.proofs.Common.{◌≡◌, true, take}
use Rattle.std.specs.List.{flat_map}
use Rattle.alias_table.specs.Aliases.{names_of}
use Rattle.alias_table.specs.Indexing.{place_at, are_placed}
use Rattle.alias_table.proofs.aliases.+placed.Given as goal

abbrev pub invariant-are_placed-loop-i : goal.invariant-are_placed-loop-i
invariant-are_placed-loop-i l = are_placed (place_at l.modules) (flat_map names_of (take l.i l.all)) ≡ true
