use Rattle.std.proofs.Common.{◌≡◌, ◌++◌, length, take, drop, sym, ap, ◌∙◌, subst, arith}
use Rattle.std.specs.List.{AllZip, flat_map}
use Rattle.job_crew.specs.Tying.{kept_of}
use Rattle.job_crew.proofs.Lists.{written_back}
use Rattle.job_crew.proofs.Whole.{off_nothing, off_within, kept_numbers, all_there}
use Rattle.job_crew.proofs.run.run_by.Goals as goal

pub returns-in_err-seats-clause-work : goal.returns-in_err-seats-clause-work
returns-in_err-seats-clause-work g c = off_nothing g.K.Kind.answers g.K.Kind.work_of c.args.jobs.now g.K.Kind.work c.all_counted.ensures c.from_residual.result c.args.analysts.now _ c.from_residual.ensures.0

pub returns-in_err-kept-clause-work : goal.returns-in_err-kept-clause-work
returns-in_err-kept-clause-work g c =
    off_within g.K.Kind.answers g.K.Kind.work_of c.args.jobs.now g.K.Kind.work c.all_counted.ensures c.from_residual-in_err-kept.result c.args.analysts.now c.work_off.new.analysts c.from_residual-in_err-kept.ensures.0 c.in_ok-work_off.ensures.work

pub returns-in_err-answers-clause-work : goal.returns-in_err-answers-clause-work
returns-in_err-answers-clause-work g c =
    off_within g.K.Kind.answers g.K.Kind.work_of c.args.jobs.now g.K.Kind.work c.all_counted.ensures c.from_residual-in_err-answers.result c.args.analysts.now c.work_off.new.analysts c.from_residual-in_err-answers.ensures.0 c.in_ok-work_off.ensures.work

pub in_order-requires : goal.in_order-requires
in_order-requires g c =
    let back : take c.in_ok-seats.seats.len (c.work_off.new.seats ++ drop (length c.work_off.new.seats) c.in_ok-seats.seats.items) ≡ c.work_off.new.seats =
    written_back c.in_ok-seats.seats.len c.work_off.new.seats (drop (length c.work_off.new.seats) c.in_ok-seats.seats.items) (let k = c.in_ok-seats.seats.ok.0 in let l = c.as_mut_slice.ensures.len in let a = c.work_off.auto.seats in omega arith) in
    kept_numbers g.K.Kind.answers g.K.Kind.work_of c.args.jobs.now g.K.Kind.work c.all_counted.ensures c.work_off.new.seats c.in_ok-kept.kept.items (c.in_ok-kept.ensures ∙ ap (λ ss. flat_map kept_of ss) back) c.in_ok-work_off.ensures.answers

pub returns-clause-answers : goal.returns-clause-answers
returns-clause-answers g c =
    let back : take c.in_ok-seats.seats.len (c.work_off.new.seats ++ drop (length c.work_off.new.seats) c.in_ok-seats.seats.items) ≡ c.work_off.new.seats =
    written_back c.in_ok-seats.seats.len c.work_off.new.seats (drop (length c.work_off.new.seats) c.in_ok-seats.seats.items) (let k = c.in_ok-seats.seats.ok.0 in let l = c.as_mut_slice.ensures.len in let a = c.work_off.auto.seats in omega arith) in
    subst (λ xs. AllZip g.K.Kind.answers c.args.jobs.now xs) (sym c.from_vec.ensures)
    (all_there g.K.Kind.answers g.K.Kind.work_of c.args.jobs.now g.K.Kind.work c.all_counted.ensures c.work_off.new.seats c.in_ok-kept.kept.items c.in_ok-answers.answers.items (c.in_ok-kept.ensures ∙ ap (λ ss. flat_map kept_of ss) back) c.in_ok-work_off.ensures.answers c.in_ok-answers.ensures)
