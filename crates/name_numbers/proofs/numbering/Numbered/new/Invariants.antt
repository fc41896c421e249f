use Rattle.std.proofs.Common.{◌≡◌, List, length}
use Rattle.check_values.specs.Rows.{Bytes}
use Rattle.name_numbers.specs.Looking.{looked, looked_or}
use Rattle.name_numbers.specs.Numbering.{number_at, node_at}
use Rattle.name_numbers.proofs.numbering.Numbered.new.Given as goal

abbrev pub invariant-loop-path : goal.invariant-loop-path
invariant-loop-path g l = (path name : Bytes) (more : List g.row.N.Denot) → looked l.initial.rest.items path name ≡ looked_or l.rest.items path name (node_at l.nodes.items more (number_at l.modules path name))

abbrev pub decreases-loop-path : goal.decreases-loop-path
decreases-loop-path g l = length l.rest.items
