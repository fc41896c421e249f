use Rattle.std.proofs.Common.{◌≡◌, length}
use Rattle.std.specs.List.{AllByRecursion}
use Rattle.job_seats.specs.analyst.specs.Work.{done}
use Rattle.job_seats.specs.Seats.{IsSeat}
use Rattle.job_seats.specs.Left.{IsWhole, AllTaken}
use Rattle.job_crew.specs.Tying.{own_view}
use Rattle.job_crew.specs.Adding.{HaveAnswered}
use Rattle.job_crew.proofs.Lists.{AllFirst}
use Rattle.job_crew.proofs.resting.work_rest.Given as goal

-- as far as deques are empty
abbrev pub invariant-loop-w : goal.invariant-loop-w
invariant-loop-w g l = record {
  many : length l.seats ≡ length l.fn.seats;
  seats : AllByRecursion (IsSeat (length l.jobs)) l.seats;
  whole : AllByRecursion (λ s. IsWhole (own_view s)) l.seats;
  taken : AllFirst (λ s. AllTaken (own_view s)) l.w l.seats;
  answered : HaveAnswered (λ w. g.K.Kind.work l.analyst ≡ done (g.K.Kind.work l.fn.analyst) w) g.K.Kind.answers g.K.Kind.work_of l.jobs l.fn.seats l.seats;
}
