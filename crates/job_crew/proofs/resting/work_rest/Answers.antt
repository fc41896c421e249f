use Rattle.std.proofs.Common.{length, refl, ◌∙◌, arith}
use Rattle.job_seats.specs.Seats.{IsSeat}
use Rattle.job_seats.specs.Left.{IsWhole, AllTaken}
use Rattle.job_crew.specs.Tying.{own_view}
use Rattle.job_crew.proofs.Lists.{rec_set, set_long, first_more, first_all}
use Rattle.job_crew.proofs.Adding.{rest_none, rest_more, rest_gave, rest_behind}
use Rattle.job_crew.proofs.resting.work_rest.Goals as goal

pub loop-w-init : goal.loop-w-init
loop-w-init g c = record {
  many = refl;
  seats = c.requires.seats;
  whole = c.requires.whole;
  taken = tt;
  answered = rest_none g.K.Kind.answers g.K.Kind.work_of c.args.jobs.now (length c.args.jobs.now) c.args.seats.now (g.K.Kind.work c.args.analyst.now) c.counted.ensures c.requires.seats;
}

pub returns-in_err-work_left : goal.returns-in_err-work_left
returns-in_err-work_left g c =
    let many = c.loop-w.invariant.many in
    rest_behind g.K.Kind.answers g.K.Kind.work_of c.args.jobs.now c.from_residual.result _ _ _ _ c.from_residual.ensures.0
    (rest_gave g.K.Kind.answers g.K.Kind.work_of c.args.jobs.now c.args.seats.now c.loop-w.seats c.loop-w.w c.work_left.new.seat c.index-seats-w.result _ _ _ (omega arith) c.loop-w.invariant.answered c.counted.ensures c.in_err-work_left.ensures.ended)
    (rec_set (λ s. IsWhole (own_view s)) c.loop-w.seats c.loop-w.w c.work_left.new.seat c.in_err-work_left.ensures.whole c.loop-w.invariant.whole)

pub loop-w-preserved : goal.loop-w-preserved
loop-w-preserved g c =
    let many = c.loop-w.invariant.many in record {
      many = set_long c.loop-w.seats c.loop-w.w c.work_left.new.seat ∙ c.loop-w.invariant.many;
      seats = rec_set (IsSeat (length c.args.jobs.now)) c.loop-w.seats c.loop-w.w c.work_left.new.seat c.in_ok-work_left.ensures.seat c.loop-w.invariant.seats;
      whole = rec_set (λ s. IsWhole (own_view s)) c.loop-w.seats c.loop-w.w c.work_left.new.seat c.in_ok-work_left.ensures.whole c.loop-w.invariant.whole;
      taken = first_more (λ s. AllTaken (own_view s)) c.loop-w.seats c.loop-w.w c.work_left.new.seat c.in_ok-work_left.ensures.left c.loop-w.invariant.taken;
      answered = rest_more g.K.Kind.answers g.K.Kind.work_of c.args.jobs.now c.args.seats.now c.loop-w.seats c.loop-w.w c.work_left.new.seat c.index-seats-w.result _ _ _ (omega arith) c.loop-w.invariant.answered c.in_ok-work_left.ensures.ended;
    }

pub returns : goal.returns
returns g c =
    let many = c.loop-w.invariant.many in
    (c.loop-w.invariant.answered, first_all (λ s. AllTaken (own_view s)) c.loop-w.seats c.loop-w.w (omega arith) c.loop-w.invariant.taken)
