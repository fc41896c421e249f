use Rattle.std.proofs.Common.{take}
use Rattle.graph_search.proofs.Climbs.{RisesOver}
use Rattle.graph_search.proofs.leveling.raise.Given as goal

abbrev pub invariant-loop-y : goal.invariant-loop-y
invariant-loop-y l = RisesOver l.edges l.owners l.k (take l.y-index l.y-items) l.fn.levels l.levels l.rose
