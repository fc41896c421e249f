use Rattle.std.proofs.Common.{length, ◌∙◌}
use Rattle.job_seats.specs.Seats.{IsSeat}
use Rattle.job_crew.proofs.Joining.{rec_front, rec_back, rec_joined, rec_set, rec_at, groups_ended, alone_ended}
use Rattle.job_crew.proofs.together.+crew.Goals as goal

pub work_all-returns-clause-ended : goal.work_all-returns-clause-ended
work_all-returns-clause-ended g t c =
    groups_ended g.K.Kind.answers g.K.Kind.work_of c.args.jobs.now g.K.Kind.work c.all_counted.ensures c.work_both-front.result.0 c.work_both-front.result.1 c.joined.result
    c.args.seats.now c.split_at_mut-first.result.0.now c.work_both-front.new.first c.split_at_mut-first.result.1.now c.work_both-front.new.second
    c.args.analysts.now c.split_at_mut-left.result.0.now c.split_at_mut-left.result.1.now c.work_both-front.new.left c.work_both-front.new.right
    c.split_at_mut-first.ensures.value c.split_at_mut-left.ensures.value c.joined.ensures c.work_both-front.ensures.front c.work_both-front.ensures.back

pub work_all-returns-clause-seats : goal.work_all-returns-clause-seats
work_all-returns-clause-seats g t c = rec_joined (λ s. IsSeat (length c.args.jobs.now) s) _ _ c.work_both-front.ensures.front_seats c.work_both-front.ensures.back_seats

pub work_all-work_both-front-requires-clause-seats : goal.work_all-work_both-front-requires-clause-seats
work_all-work_both-front-requires-clause-seats g t c κs within = (
  rec_front (λ s. IsSeat (length c.args.jobs.now) s) _ _ _ c.split_at_mut-first.ensures.value c.requires.seats,
  rec_back (λ s. IsSeat (length c.args.jobs.now) s) _ _ _ c.split_at_mut-first.ensures.value c.requires.seats,
)

pub work_all-returns-then-analysts-eq1-clause-ended : goal.work_all-returns-then-analysts-eq1-clause-ended
work_all-returns-then-analysts-eq1-clause-ended g t c =
    alone_ended g.K.Kind.answers g.K.Kind.work_of c.args.jobs.now g.K.Kind.work c.all_counted.ensures c.work.result c.args.seats.now c.args.analysts.now c.index-seats-0.result c.work.new.seat c.index-analysts-0.result c.work.new.analyst
    (c.requires.many ∙ c.if-analysts-eq1.true) c.if-analysts-eq1.true c.work.ensures.ended

pub work_all-returns-then-analysts-eq1-clause-seats : goal.work_all-returns-then-analysts-eq1-clause-seats
work_all-returns-then-analysts-eq1-clause-seats g t c = rec_set (λ s. IsSeat (length c.args.jobs.now) s) c.args.seats.now c.work.new.seat (c.requires.many ∙ c.if-analysts-eq1.true) c.work.ensures.seat

pub work_all-work-requires-clause-seat : goal.work_all-work-requires-clause-seat
work_all-work-requires-clause-seat g t c = rec_at (λ s. IsSeat (length c.args.jobs.now) s) c.args.seats.now c.index-seats-0.result (c.requires.many ∙ c.if-analysts-eq1.true) c.requires.seats
