use Rattle.graph_search.proofs.Heights.{IsHeight}
use Rattle.graph_search.proofs.leveling.height.Given as goal

abbrev pub invariant-loop-level : goal.invariant-loop-level
invariant-loop-level l = IsHeight l.levels l.level-index l.height
