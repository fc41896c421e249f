use Rattle.std.proofs.Common.{refl}
use Rattle.job_seats.proofs.Drawing.{links_long}
use Rattle.job_seats.proofs.Rounds.{went_on, gave_up_behind, ended_behind}
use Rattle.job_seats.proofs.working.work_once.Goals as goal

pub returns-in_err-push-clause-ended : goal.returns-in_err-push-clause-ended
returns-in_err-push-clause-ended g c = ended_behind g.K.Kind.answers g.K.Kind.work_of c.args.jobs.now c.from_residual-in_err-push.result _ _ _ _ c.from_residual-in_err-push.ensures.0
    (gave_up_behind g.K.Kind.answers g.K.Kind.work_of c.args.jobs.now c.in-Some.number c.index-jobs-number.result c.in-Some.ensures.low c.index-jobs-number.is _ _ c.args.seat.now c.draw.new.seat _ refl refl refl c.in-Some.ensures.drew c.counted.ensures c.in_ok-answer.ensures.work)

pub returns-clause-links : goal.returns-clause-links
returns-clause-links g c = links_long _ _ c.in-Some.ensures.drew.links

pub returns-clause-ended : goal.returns-clause-ended
returns-clause-ended g c = went_on g.K.Kind.answers g.K.Kind.work_of c.args.jobs.now c.in-Some.number c.index-jobs-number.result c.in-Some.ensures.low c.index-jobs-number.is _ _ c.args.seat.now c.draw.new.seat _ refl refl refl
    c.in-Some.ensures.drew c.in_ok-answer.answer c.draw.ensures.kept c.in_ok-push.ensures.items c.in_ok-answer.ensures.answer c.in_ok-answer.ensures.work
