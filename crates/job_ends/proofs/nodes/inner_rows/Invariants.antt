use Rattle.std.proofs.Common.{◌≡◌, map, take}
use Rattle.named_rows.specs.Seen.{seen}
use Rattle.job_ends.specs.Jobs.{known_of}
use Rattle.job_ends.specs.Nodes.{inner}
use Rattle.job_ends.specs.Views.{node_view}
use Rattle.job_ends.proofs.nodes.inner_rows.Given as goal

abbrev pub invariant-loop-i : goal.invariant-loop-i
invariant-loop-i l = seen node_view l.rows ≡ map (λ row. (row.0, inner l.member.member.now.path (known_of l.member.member.now) row.1)) (take l.i l.exports)
