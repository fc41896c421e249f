use Rattle.std.proofs.Common.{length}
use Rattle.job_crew.proofs.Returned.{IsReturning}
use Rattle.job_crew.proofs.gathering.gather_row.Given as goal

-- as far as passes are back
abbrev pub invariant-row : goal.invariant-row
invariant-row g l = IsReturning l.rows l.fn.seats l.seats l.initial.links.items l.links.items

abbrev pub decreases-row : goal.decreases-row
decreases-row g l = length l.links.items
