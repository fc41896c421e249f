use Rattle.std.proofs.Common.{length, refl, ◌∙◌}
use Rattle.job_seats.proofs.Rounds.{stayed, went_then, gave_then, ended_behind}
use Rattle.job_seats.proofs.working.work_round.Goals as goal

pub loop-turn-init : goal.loop-turn-init
loop-turn-init g c = record {
  seat = c.requires.seat;
  links = refl;
  went = stayed g.K.Kind.answers g.K.Kind.work_of c.args.jobs.now (length c.args.jobs.now) c.args.seat.now (g.K.Kind.work c.args.analyst.now) c.counted.ensures c.requires.seat;
}

pub returns-in_err-more-clause-ended : goal.returns-in_err-more-clause-ended
returns-in_err-more-clause-ended g c = ended_behind g.K.Kind.answers g.K.Kind.work_of c.args.jobs.now c.from_residual.result _ _ _ _ c.from_residual.ensures.0
    (gave_then g.K.Kind.answers g.K.Kind.work_of c.args.jobs.now _ _ _ _ _ _ c.counted.ensures c.loop-turn.invariant.went c.in_err-more.ensures.ended)

pub loop-turn-preserved : goal.loop-turn-preserved
loop-turn-preserved g c = record {
  seat = c.in_ok-more.ensures.seat;
  links = c.in_ok-more.ensures.links ∙ c.loop-turn.invariant.links;
  went = went_then g.K.Kind.answers g.K.Kind.work_of c.args.jobs.now _ _ _ _ _ _ c.loop-turn.invariant.went c.in_ok-more.ensures.ended;
}
