use Rattle.std.proofs.Common.{length}
use Rattle.crossbeam_deque.specs.Handles.{worker_view}
use Rattle.job_seats.specs.Seats.{IsSeat}
use Rattle.job_seats.specs.Left.{IsWhole, left_in}
use Rattle.job_seats.specs.Working.{Went}
use Rattle.job_seats.proofs.working.work_left.Given as goal

-- as far as it has come
abbrev pub invariant-left : goal.invariant-left
invariant-left g l = record {
  seat : IsSeat (length l.jobs) l.seat;
  whole : IsWhole (worker_view l.seat.own);
  went : Went g.K.Kind.answers g.K.Kind.work_of l.jobs l.fn.seat l.seat (g.K.Kind.work l.fn.analyst) (g.K.Kind.work l.analyst);
}

abbrev pub decreases-left : goal.decreases-left
decreases-left g l = left_in (worker_view l.seat.own)
