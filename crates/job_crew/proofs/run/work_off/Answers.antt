use Rattle.std.proofs.Common.{length, refl, arith}
use Rattle.job_crew.proofs.Linked.{seats_ready}
use Rattle.job_crew.proofs.Whole.{tied_after, ended_same, gathered_seats, gathered_whole, off_gave, off_answered, off_worked}
use Rattle.job_crew.proofs.run.work_off.Goals as goal

pub work_all-ended-requires-clause-seats : goal.work_all-ended-requires-clause-seats
work_all-ended-requires-clause-seats g c κs within =
    let n = length c.args.seats.now in
    seats_ready (length c.args.jobs.now) n 0 n n c.args.seats.now c.requires.many.1 c.requires.fresh c.requires.tied

pub gather_all-requires : goal.gather_all-requires
gather_all-requires g c =
    tied_after (length c.args.seats.now) c.args.seats.now c.work_all-ended.new.seats refl
    (ended_same g.K.Kind.answers g.K.Kind.work_of c.args.jobs.now g.K.Kind.work c.all_counted.ensures c.work_all-ended.result c.args.seats.now c.work_all-ended.new.seats _ _ c.work_all-ended.ensures.ended) c.requires.tied

pub work_rest-requires-clause-seats : goal.work_rest-requires-clause-seats
work_rest-requires-clause-seats g c = gathered_seats (length c.args.jobs.now) c.work_all-ended.new.seats c.gather_all.new.seats c.gather_all.ensures.gathered c.work_all-ended.ensures.seats

pub work_rest-requires-clause-whole : goal.work_rest-requires-clause-whole
work_rest-requires-clause-whole g c = gathered_whole c.work_all-ended.new.seats c.gather_all.new.seats c.gather_all.ensures.gathered

pub returns-in-Ok-clause-answers : goal.returns-in-Ok-clause-answers
returns-in-Ok-clause-answers g c =
    off_answered g.K.Kind.answers g.K.Kind.work_of c.args.jobs.now g.K.Kind.work c.all_counted.ensures c.args.seats.now c.work_all-ended.new.seats c.gather_all.new.seats c.requires.fresh c.requires.put
    c.gather_all.ensures.gathered c.gather_all.ensures.taken c.work_all-ended.result c.work_rest.result c.work_rest.new.seats c.args.analysts.now c.work_all-ended.new.analysts (omega arith) c.index-analysts-0.result c.work_rest.new.analyst _ c.in-Ok.is
    c.work_all-ended.ensures.ended c.work_rest.ensures

pub returns-in-Ok-clause-work : goal.returns-in-Ok-clause-work
returns-in-Ok-clause-work g c =
    off_worked g.K.Kind.answers g.K.Kind.work_of c.args.jobs.now g.K.Kind.work c.all_counted.ensures c.args.seats.now c.work_all-ended.new.seats c.gather_all.new.seats c.requires.fresh c.requires.put
    c.gather_all.ensures.gathered c.gather_all.ensures.taken c.work_all-ended.result c.work_rest.result c.work_rest.new.seats c.args.analysts.now c.work_all-ended.new.analysts (omega arith) c.index-analysts-0.result c.work_rest.new.analyst _ c.in-Ok.is
    c.work_all-ended.ensures.ended c.work_rest.ensures

pub returns-in-Err-clause-work : goal.returns-in-Err-clause-work
returns-in-Err-clause-work g c =
    off_gave g.K.Kind.answers g.K.Kind.work_of c.args.jobs.now g.K.Kind.work c.all_counted.ensures c.args.seats.now c.work_all-ended.new.seats c.gather_all.new.seats c.requires.fresh c.requires.put
    c.gather_all.ensures.gathered c.gather_all.ensures.taken c.work_all-ended.result _ c.args.analysts.now c.work_all-ended.new.analysts c.in-Err.is c.work_all-ended.ensures.ended
