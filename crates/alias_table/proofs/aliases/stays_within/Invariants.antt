use Rattle.std.proofs.Common.{◌≡◌, true, take}
use Rattle.std.specs.List.{flat_map}
use Rattle.alias_table.specs.Aliases.{names_of}
use Rattle.alias_table.specs.Indexing.{place_at, are_placed}
use Rattle.alias_table.proofs.aliases.stays_within.Given as goal

abbrev pub invariant-loop-i : goal.invariant-loop-i
invariant-loop-i l = are_placed (place_at l.modules) (flat_map (λ row. names_of row.2) (take l.i l.rows)) ≡ true
