use Rattle.std.proofs.Common.{◌≡◌, ◌++◌, map, take}
use Rattle.named_rows.specs.Seen.{seen}
use Rattle.job_ends.specs.Nodes.{outer}
use Rattle.job_ends.specs.Views.{node_view}
use Rattle.job_ends.proofs.nodes.add_outer_rows.Given as goal

abbrev pub invariant-loop-i : goal.invariant-loop-i
invariant-loop-i l = seen node_view l.rows ≡ seen node_view l.fn.rows ++ map (λ row. (row.0, outer row.1)) (take l.i l.exports)
