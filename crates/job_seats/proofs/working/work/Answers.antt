use Rattle.std.proofs.Common.{length}
use Rattle.job_seats.proofs.Rounds.{stayed, went_then, gave_then, ended_behind}
use Rattle.job_seats.proofs.working.work.Goals as goal

pub loop-round-init : goal.loop-round-init
loop-round-init g c = record {
  seat = c.requires.seat;
  went = stayed g.K.Kind.answers g.K.Kind.work_of c.args.jobs.now (length c.args.jobs.now) c.args.seat.now (g.K.Kind.work c.args.analyst.now) c.counted.ensures c.requires.seat;
}

pub returns-in_err-took-clause-ended : goal.returns-in_err-took-clause-ended
returns-in_err-took-clause-ended g c = ended_behind g.K.Kind.answers g.K.Kind.work_of c.args.jobs.now c.from_residual.result _ _ _ _ c.from_residual.ensures.0
    (gave_then g.K.Kind.answers g.K.Kind.work_of c.args.jobs.now _ _ _ _ _ _ c.counted.ensures c.loop-round.invariant.went c.in_err-took.ensures.ended)

pub loop-round-preserved : goal.loop-round-preserved
loop-round-preserved g c = record {
  seat = c.in_ok-took.ensures.seat;
  went = went_then g.K.Kind.answers g.K.Kind.work_of c.args.jobs.now _ _ _ _ _ _ c.loop-round.invariant.went c.in_ok-took.ensures.ended;
}

pub returns-then-not-took-clause-ended : goal.returns-then-not-took-clause-ended
returns-then-not-took-clause-ended g c = went_then g.K.Kind.answers g.K.Kind.work_of c.args.jobs.now _ _ _ _ _ _ c.loop-round.invariant.went c.in_ok-took.ensures.ended
