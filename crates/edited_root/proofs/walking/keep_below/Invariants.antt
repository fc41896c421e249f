use Rattle.std.proofs.Common.{◌≤◌, ◌-◌, length}
use Rattle.edited_root.specs.Walk.{Walks}
use Rattle.edited_root.proofs.walking.keep_below.Given as goal

-- as far as modules are taken over
abbrev pub invariant-loop-drafts : goal.invariant-loop-drafts
invariant-loop-drafts l = record { within : l.at ≤ length l.modules; walks : Walks l.modules l.path l.fn.at l.at l.fn.drafts.items l.drafts.items }

abbrev pub decreases-loop-drafts : goal.decreases-loop-drafts
decreases-loop-drafts l = length l.modules - l.at
