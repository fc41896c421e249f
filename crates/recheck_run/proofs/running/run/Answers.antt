use Rattle.std.proofs.Common.{◌≡◌, true, false, refl, sym, ◌∙◌, arith, map}
use Rattle.std.proofs.lemmas.Result.{err_from_is_err_and}
use Rattle.committed_results.specs.recheck_staging.proofs.Steps.{staging_none, staging_then}
use Rattle.recheck_run.proofs.Questions.{yes_at}
use Rattle.recheck_run.proofs.Works.{worked_none}
use Rattle.recheck_run.proofs.Runs.{holds_stage, holds_ready, still_bare, still_based, still_next, stands_stage, stopped, ended, failed, next_fits}
use Rattle.recheck_reach.specs.work_totals.specs.Totals.{total}
use Rattle.recheck_run.proofs.running.run.Goals as goal

pub polls-init : goal.polls-init
polls-init g c = record {
  holds = (tt, refl);
  stands = λ n a. ((refl, worked_none _ c.counted.ensures), tt);
  some = omega arith;
  asked = (let b = c.bounded.ensures.0 in omega (arith, b));
  quiet = refl;
  told_stop = refl;
  staging = staging_none _ _ refl;
  is_open = c.requires.is_open;
  told = refl;
  part = refl;
  many = refl;
}

pub step-requires-clause-some : goal.step-requires-clause-some
step-requires-clause-some g c κs within = (let some = c.requires.some in let many = c.polls.invariant.many in omega (arith, some, many))

pub step-requires-clause-bare : goal.step-requires-clause-bare
step-requires-clause-bare g c κs within = (let h = holds_stage _ _ _ _ c.in-GoesTo.stage c.in-GoesTo.is c.polls.invariant.holds in still_bare _ _ h.1 c.requires.bare)

pub step-requires-clause-base : goal.step-requires-clause-base
step-requires-clause-base g c κs within = (let h = holds_stage _ _ _ _ c.in-GoesTo.stage c.in-GoesTo.is c.polls.invariant.holds in still_based _ _ c.args.base.now h.1 c.requires.base)

pub step-requires-clause-holds : goal.step-requires-clause-holds
step-requires-clause-holds g c κs within = (holds_stage _ _ _ _ c.in-GoesTo.stage c.in-GoesTo.is c.polls.invariant.holds).0

pub returns-then-stop-clause-halted : goal.returns-then-stop-clause-halted
returns-then-stop-clause-halted g c = λ n a.
    stopped c.members_add_up.ensures c.args.base.now n a (record { stop = g.S.Stop.seen c.args.stop.now; work = total (map g.A.Analyst.work c.args.analysts.now) }) (record { stop = g.S.Stop.seen c.polls.stop; work = total (map g.A.Analyst.work c.polls.analysts) }) _ c.polls.poll
    c.polls.invariant.some c.polls.invariant.asked c.polls.invariant.quiet c.stop.ensures.questions _ _ c.polls.next c.polls.invariant.holds (c.polls.invariant.stands n a) (c.stop.ensures.counts.rises c.if-stop.true)
    (yes_at (g.S.Stop.seen c.args.stop.now).told (g.S.Stop.seen c.polls.stop) (g.S.Stop.seen c.stop.new.self) c.stop.result
    c.polls.invariant.told_stop (c.stop.ensures.told ∙ c.polls.invariant.told_stop)
    (g.met.S.Stop.keeps_word c.polls.stop) (g.met.S.Stop.keeps_word c.stop.new.self) c.stop.ensures.questions c.stop.ensures.counts c.if-stop.true)

pub overflow_add-poll : goal.overflow_add-poll
overflow_add-poll g c =
    let h = holds_stage _ _ _ _ c.in-GoesTo.stage c.in-GoesTo.is c.polls.invariant.holds in
    let fits = next_fits c.each_full.ensures c.members_add_up.ensures c.args.base.now c.requires.base.base c.in-GoesTo.stage c.polls.poll (total (map g.A.Analyst.work c.args.analysts.now)) (total (map g.A.Analyst.work c.polls.analysts)) h.0
    (λ n a. stands_stage n c.polls.next c.in-GoesTo.stage c.polls.poll _ _ c.in-GoesTo.is (c.polls.invariant.stands n a)) in
    omega (arith, fits)

pub returns-in_err-next-in-GoesTo-clause-halted : goal.returns-in_err-next-in-GoesTo-clause-halted
returns-in_err-next-in-GoesTo-clause-halted g c =
    let p = err_from_is_err_and c.from_residual.result c.from_residual.ensures.1 in
    let h = holds_stage _ _ _ _ c.in-GoesTo.stage c.in-GoesTo.is c.polls.invariant.holds in
    rw (p.1, p.2) (λ n a.
    let st = stands_stage n c.polls.next c.in-GoesTo.stage c.polls.poll _ _ c.in-GoesTo.is (c.polls.invariant.stands n a) in
    failed c.members_add_up.ensures c.args.base.now n a (record { stop = g.S.Stop.seen c.args.stop.now; work = total (map g.A.Analyst.work c.args.analysts.now) }) (record { stop = g.S.Stop.seen c.polls.stop; work = total (map g.A.Analyst.work c.polls.analysts) }) _ c.polls.poll
    c.polls.invariant.some c.polls.invariant.asked c.polls.invariant.quiet c.stop.ensures.questions c.in-GoesTo.stage _ h.0 st.0 (c.stop.ensures.counts.stays (λ said. let z : true ≡ false = sym said ∙ c.if-stop.false in cc))
    (c.in_err-next-in-GoesTo.ensures.leads n c.polls.poll (total (map g.A.Analyst.work c.args.analysts.now)) a c.counted.ensures st.0))

pub polls-preserved : goal.polls-preserved
polls-preserved g c =
    let h = holds_stage _ _ _ _ c.in-GoesTo.stage c.in-GoesTo.is c.polls.invariant.holds in
    let some = c.polls.invariant.some in
    let asked = c.polls.invariant.asked in
    let rises = c.stop.ensures.questions in
    record {
      holds = still_next c.args.base.now _ _ _ _ h.1 c.in_ok-next-in-GoesTo.ensures.holds;
      stands = λ n a. (
          let st = stands_stage n c.polls.next c.in-GoesTo.stage c.polls.poll _ _ c.in-GoesTo.is (c.polls.invariant.stands n a) in
          c.in_ok-next-in-GoesTo.ensures.leads n c.polls.poll (total (map g.A.Analyst.work c.args.analysts.now)) a c.counted.ensures st.0);
      some = omega arith;
      asked = omega (arith, some, asked, rises);
      quiet = c.stop.ensures.counts.stays (λ said. let z : true ≡ false = sym said ∙ c.if-stop.false in cc) ∙ c.polls.invariant.quiet;
      told_stop = c.stop.ensures.told ∙ c.polls.invariant.told_stop;
      staging = staging_then _ _ _ c.polls.invariant.staging c.step.ensures.staging;
      is_open = c.step.ensures.is_open;
      told = c.step.ensures.told ∙ c.polls.invariant.told;
      part = c.step.ensures.part ∙ c.polls.invariant.part;
      many = c.step.ensures.many ∙ c.polls.invariant.many;
    }

pub returns-in-Ready-clause-ready : goal.returns-in-Ready-clause-ready
returns-in-Ready-clause-ready g c = holds_ready _ _ _ _ c.in-Ready.staged c.in-Ready.is c.polls.invariant.holds

pub returns-in-Ready-clause-ended : goal.returns-in-Ready-clause-ended
returns-in-Ready-clause-ended g c = λ n a.
    ended c.members_add_up.ensures c.args.base.now n a (record { stop = g.S.Stop.seen c.args.stop.now; work = total (map g.A.Analyst.work c.args.analysts.now) }) (record { stop = g.S.Stop.seen c.polls.stop; work = total (map g.A.Analyst.work c.polls.analysts) }) _ c.polls.poll
    c.polls.invariant.some c.polls.invariant.asked c.polls.invariant.quiet c.stop.ensures.questions c.polls.next c.in-Ready.staged c.in-Ready.is (c.polls.invariant.stands n a)
    (c.stop.ensures.counts.stays (λ said. let z : true ≡ false = sym said ∙ c.if-stop.false in cc))
