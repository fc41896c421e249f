use Rattle.std.proofs.Common.{take}
use Rattle.refine_flow.specs.Standing.{shown}
use Rattle.refine_flow.specs.Planning.{JoinsRows}
use Rattle.refine_flow.proofs.facts.Facts.plan.Given as goal

abbrev pub invariant-loop-i : goal.invariant-loop-i
invariant-loop-i l = JoinsRows l.self.names (shown l.others) (shown l.self) (take l.i l.rows) l.plan.items
