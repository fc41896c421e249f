use Rattle.std.proofs.Common.{◌≡◌, length}
use Rattle.job_seats.specs.Seats.{IsSeat}
use Rattle.job_seats.specs.Working.{Went}
use Rattle.job_seats.proofs.working.work_round.Given as goal

-- as far as the round has come
abbrev pub invariant-loop-turn : goal.invariant-loop-turn
invariant-loop-turn g l = record {
  seat : IsSeat (length l.jobs) l.seat;
  links : length l.seat.links.items ≡ length l.fn.seat.links.items;
  went : Went g.K.Kind.answers g.K.Kind.work_of l.jobs l.fn.seat l.seat (g.K.Kind.work l.fn.analyst) (g.K.Kind.work l.analyst);
}
