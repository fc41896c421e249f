use Rattle.std.proofs.Common.{ap, ◌∙◌, arith}
use Rattle.fact_trail.specs.Moments.{map_of}
use Rattle.fact_arms.specs.Differences.{is_among}
use Rattle.fact_arms.proofs.Moving.{over_nothing, leaves_nothing, goes_itself, goes_then, back_at}
use Rattle.fact_arms.proofs.difference.Difference.take.Goals as goal

pub loop-difference-init : goal.loop-difference-init
loop-difference-init c = record {
  made = over_nothing c.new-difference.result c.new-difference.ensures.said (λ s. ap (λ g. is_among g s) c.new-difference.ensures.gone ∙ c.none.ensures s) (map_of c.args.trail.now);
  leaves = λ s was. leaves_nothing c.new-difference.result s c.new-difference.ensures.said;
  within = c.requires;
  goes = goes_itself c.args.trail.now;
}

pub loop-difference-preserved : goal.loop-difference-preserved
loop-difference-preserved c =
    let before = c.loop-difference.invariant in let took = c.in_ok-take_last.ensures in
    record {
      made = took.back.made ∙ before.made;
      leaves = λ s was. took.back.leaves s (before.goes.fresh s was) (before.leaves s was);
      within = let one = took.one in omega (arith, one, c.loop-difference-test.true, c.len.ensures);
      goes = goes_then c.args.trail.now c.loop-difference.trail c.take_last.new.trail before.goes took.goes;
    }

pub returns-clause-back : goal.returns-clause-back
returns-clause-back c =
    let before = c.loop-difference.invariant in back_at c.args.trail.now c.loop-difference.trail c.args.number before.goes (omega (arith, c.loop-difference-test.false, c.len.ensures)) before.within

pub returns-clause-count : goal.returns-clause-count
returns-clause-count c = let within = c.loop-difference.invariant.within in omega (arith, within, c.loop-difference-test.false, c.len.ensures)

pub returns-in_err-take_last-clause-within : goal.returns-in_err-take_last-clause-within
returns-in_err-take_last-clause-within c = let one = c.in_err-take_last.ensures.one in omega (arith, one, c.loop-difference-test.true, c.len.ensures)

pub returns-in_err-take_last-clause-goes : goal.returns-in_err-take_last-clause-goes
returns-in_err-take_last-clause-goes c = goes_then c.args.trail.now c.loop-difference.trail c.take_last.new.trail c.loop-difference.invariant.goes c.in_err-take_last.ensures.goes
