use Rattle.std.proofs.Common.{length}
use Rattle.std.specs.List.{AllByRecursion}
use Rattle.flow_base.specs.Path.{IsNormalPath}
use Rattle.flowd_top.proofs.top.see_normal.Given as goal

-- where the rest are normal paths, all are
abbrev pub invariant-loop-rest : goal.invariant-loop-rest
invariant-loop-rest l = AllByRecursion IsNormalPath l.rest → AllByRecursion IsNormalPath l.paths

abbrev pub decreases-loop-rest : goal.decreases-loop-rest
decreases-loop-rest l = length l.rest
