use Rattle.std.proofs.Common.{◌≡◌, ◌-◌, true, map, take, drop}
use Rattle.code_tree.specs.View.{operand_view}
use Rattle.check_expr.specs.Runs.{are_run}
use Rattle.check_expr.proofs.operands.run_end.Given as goal

abbrev pub invariant-loop-end : goal.invariant-loop-end
invariant-loop-end l = are_run l.is_and (map operand_view (take (l.end - l.at) (drop l.at l.operands))) ≡ true
