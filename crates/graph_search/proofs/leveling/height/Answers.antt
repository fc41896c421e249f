use Rattle.std.proofs.Common.{ℕ, ◌+◌, sym, subst, arith}
use Rattle.graph_search.proofs.Heights.{IsHeight, height_begin, height_up, height_same, height_below, height_there}
use Rattle.graph_search.proofs.leveling.height.Goals as goal
use Rattle.graph_search.proofs.leveling.height.Goals.{then-level-height, else-level-height}

pub loop-level-init : goal.loop-level-init
loop-level-init c = height_begin c.args.levels.now

pub loop-level-preserved : goal.loop-level-preserved
loop-level-preserved c = elim c.if-level-height.branch [
  | then-level-height w ↦ subst (λ (h : ℕ). IsHeight c.args.levels.now (c.loop-level.level-index + 1) h) (sym w.height-is) (height_up c.args.levels.now c.loop-level.level-index c.loop-level.height c.loop-level-test.true (omega arith) c.loop-level.invariant)
  | else-level-height w ↦ subst (λ (h : ℕ). IsHeight c.args.levels.now (c.loop-level.level-index + 1) h) (sym w.height-is) (height_same c.args.levels.now c.loop-level.level-index c.loop-level.height (omega arith) c.loop-level.invariant)
]

pub returns-clause-below : goal.returns-clause-below
returns-clause-below c = height_below c.args.levels.now c.loop-level.level-index c.loop-level.height c.loop-level-test.false c.loop-level.invariant

pub returns-clause-there : goal.returns-clause-there
returns-clause-there c = height_there c.args.levels.now c.loop-level.level-index c.loop-level.height c.loop-level-test.false c.loop-level.invariant
