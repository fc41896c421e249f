use Rattle.std.proofs.Common.{◌≡◌, drop}
use Rattle.flow_values.specs.Path.{IsRising}
use Rattle.check_values.specs.Roots.{paths_of_rows}
use Rattle.recheck_plan.specs.Differing.{changes_of}
use Rattle.recheck_plan.proofs.Walks.{then_all}
use Rattle.recheck_plan.proofs.changing.changed.Given as goal

abbrev pub invariant-loop-path : goal.invariant-loop-path
invariant-loop-path l = IsRising (paths_of_rows l.rest) × (then_all l.changes l.rest (drop l.path-index l.texts) ≡ changes_of l.root l.texts)
