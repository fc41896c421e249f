use Rattle.std.proofs.Common.{length}
use Rattle.job_seats.specs.Seats.{IsSeat}
use Rattle.job_seats.specs.Working.{Went}
use Rattle.job_seats.proofs.working.work.Given as goal

-- as far as the rounds have come
abbrev pub invariant-loop-round : goal.invariant-loop-round
invariant-loop-round g l = record {
  seat : IsSeat (length l.jobs) l.seat;
  went : Went g.K.Kind.answers g.K.Kind.work_of l.jobs l.fn.seat l.seat (g.K.Kind.work l.fn.analyst) (g.K.Kind.work l.analyst);
}
