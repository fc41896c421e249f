use Rattle.std.proofs.Common.{◌≡◌, length}
use Rattle.recheck_plan.specs.Walk.{from_path}
use Rattle.recheck_plan.proofs.changing.from_path.Given as goal

-- the modules that are left lead where all modules did
abbrev pub invariant-loop-first : goal.invariant-loop-first
invariant-loop-first l = from_path l.path l.rest ≡ from_path l.path l.modules

abbrev pub decreases-loop-first : goal.decreases-loop-first
decreases-loop-first l = length l.rest
