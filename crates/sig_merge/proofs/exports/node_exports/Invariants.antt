use Rattle.std.proofs.Common.{◌≡◌, Some, map, take}
use Rattle.job_ends.specs.Nodes.{node_export}
use Rattle.job_ends.specs.Views.{node_view}
use Rattle.sig_merge.specs.Merging.{types_in}
use Rattle.sig_merge.proofs.exports.node_exports.Given as goal

abbrev pub invariant-loop-i : goal.invariant-loop-i
invariant-loop-i l = l.exports.items ≡ map (λ node. node_export (types_in l.ends) (Some (node_view node))) (take l.i l.nodes)
