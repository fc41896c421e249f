use Rattle.std.proofs.Common.{◌≡◌, length}
use Rattle.check_values.specs.Rows.{by_name}
use Rattle.named_rows.proofs.ByName.{put_all}
use Rattle.named_rows.proofs.by_name.Given as goal

-- the rows that are left, before those in the map
abbrev pub invariant-loop-name : goal.invariant-loop-name
invariant-loop-name g l = by_name l.initial.rows.items ≡ put_all l.rows.items l.map.entries

abbrev pub decreases-loop-name : goal.decreases-loop-name
decreases-loop-name g l = length l.rows.items
