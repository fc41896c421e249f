use Rattle.job_crew.proofs.Returned.{AreLookedAt}
use Rattle.job_crew.proofs.gathering.account_all.Given as goal

-- as far as deques are looked at
abbrev pub invariant-loop-w : goal.invariant-loop-w
invariant-loop-w g l = AreLookedAt l.w l.fn.seats l.seats
