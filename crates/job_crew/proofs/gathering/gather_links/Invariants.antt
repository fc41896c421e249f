use Rattle.std.proofs.Common.{length}
use Rattle.job_crew.proofs.Returned.{AreReturning}
use Rattle.job_crew.proofs.gathering.gather_links.Given as goal

-- as far as rows are back
abbrev pub invariant-loop-w : goal.invariant-loop-w
invariant-loop-w g l = AreReturning (length l.fn.seats) l.w l.fn.seats l.seats
