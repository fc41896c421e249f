use Rattle.std.proofs.Common.{◌≡◌, ◌++◌, length}
use Rattle.named_rows.proofs.sorted_by_name.Given as goal

-- those in the list, before those that are left in the map
abbrev pub invariant-loop-name : goal.invariant-loop-name
invariant-loop-name g l = l.initial.map.entries ≡ l.sorted.items ++ l.map.entries

abbrev pub decreases-loop-name : goal.decreases-loop-name
decreases-loop-name g l = length l.map.entries
