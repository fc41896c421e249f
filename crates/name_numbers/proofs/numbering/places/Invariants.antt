use Rattle.std.proofs.Common.{◌≡◌, ◌++◌, List, length}
use Rattle.check_values.specs.Rows.{Bytes, row_at}
use Rattle.name_numbers.specs.Numbering.{place, row_or, node_at}
use Rattle.name_numbers.proofs.numbering.places.Given as goal

abbrev pub invariant-loop-name : goal.invariant-loop-name
invariant-loop-name g l = record {
  grows : (added : List g.row.N.Denot) × (l.nodes.items ≡ l.fn.nodes.items ++ added);
  places : (name : Bytes) (more : List g.row.N.Denot) → row_at l.initial.rows name ≡ row_or l.rows name (node_at l.nodes.items more (place l.places name));
}

abbrev pub decreases-loop-name : goal.decreases-loop-name
decreases-loop-name g l = length l.rows
