use Rattle.std.proofs.Common.{◌≡◌, ◌++◌, length, take, drop, sum_by, sym, ap, ◌∙◌, subst, arith}
use Rattle.std.specs.List.{AllByRecursion}
use Rattle.job_crew.specs.Tying.{own_view, AreTied, IsFresh}
use Rattle.job_crew.proofs.Lists.{written_back}
use Rattle.job_crew.proofs.setting.seats_of.Goals as goal

pub returns-clause-many : goal.returns-clause-many
returns-clause-many g c =
    ap (λ ss. length ss) (written_back c.in_ok-seats.seats.len c.link_all.new.seats (drop (length c.link_all.new.seats) c.in_ok-seats.seats.items) (let k = c.in_ok-seats.seats.ok.0 in let l = c.as_mut_slice.ensures.len in let a = c.link_all.auto.seats in omega arith))
    ∙ c.in_ok-link_all.ensures.many

pub returns-clause-fresh : goal.returns-clause-fresh
returns-clause-fresh g c =
    subst (λ ss. AllByRecursion (IsFresh c.args.jobs) ss)
    (sym (written_back c.in_ok-seats.seats.len c.link_all.new.seats (drop (length c.link_all.new.seats) c.in_ok-seats.seats.items) (let k = c.in_ok-seats.seats.ok.0 in let l = c.as_mut_slice.ensures.len in let a = c.link_all.auto.seats in omega arith)))
    (c.in_ok-link_all.ensures.fresh c.args.jobs (subst (λ ss. AllByRecursion (IsFresh c.args.jobs) ss) (sym c.as_mut_slice.ensures.value) c.in_ok-seats.ensures.fresh))

pub returns-clause-tied : goal.returns-clause-tied
returns-clause-tied g c =
    subst (λ ss. AreTied c.args.workers 0 c.args.workers c.args.workers ss)
    (sym (written_back c.in_ok-seats.seats.len c.link_all.new.seats (drop (length c.link_all.new.seats) c.in_ok-seats.seats.items) (let k = c.in_ok-seats.seats.ok.0 in let l = c.as_mut_slice.ensures.len in let a = c.link_all.auto.seats in omega arith)))
    c.in_ok-link_all.ensures.tied

pub returns-clause-put : goal.returns-clause-put
returns-clause-put g c = λ h.
    ap (λ ss. sum_by (λ s. sum_by h (own_view s).put) ss)
    (written_back c.in_ok-seats.seats.len c.link_all.new.seats (drop (length c.link_all.new.seats) c.in_ok-seats.seats.items) (let k = c.in_ok-seats.seats.ok.0 in let l = c.as_mut_slice.ensures.len in let a = c.link_all.auto.seats in omega arith))
    ∙ (c.in_ok-link_all.ensures.put h ∙ (ap (λ ss. sum_by (λ s. sum_by h (own_view s).put) ss) c.as_mut_slice.ensures.value ∙ c.in_ok-seats.ensures.put h))
