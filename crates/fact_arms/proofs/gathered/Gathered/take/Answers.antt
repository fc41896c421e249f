use Rattle.std.proofs.Common.{refl, ◌∙◌, arith}
use Rattle.fact_arms.proofs.Moving.{goes_itself, goes_then, back_at}
use Rattle.fact_arms.proofs.gathered.Gathered.take.Goals as goal

pub loop-self-init : goal.loop-self-init
loop-self-init c = record {
  made = refl;
  leaves = λ s was leaves. leaves;
  settled = c.requires.settled;
  within = c.requires.within;
  goes = goes_itself c.args.trail.now;
}

pub take_last-requires : goal.take_last-requires
take_last-requires c = record {
  more = omega (arith, c.loop-self-test.true, c.len.ensures);
  settled = c.loop-self.invariant.settled;
}

pub loop-self-preserved : goal.loop-self-preserved
loop-self-preserved c =
    let before = c.loop-self.invariant in let took = c.in_ok-take_last.ensures in
    record {
      made = took.back.made ∙ before.made;
      leaves = λ s was leaves. took.back.leaves s (before.goes.fresh s was) (before.leaves s was leaves);
      settled = took.settled;
      within = let one = took.one in omega (arith, one, c.loop-self-test.true, c.len.ensures);
      goes = goes_then c.args.trail.now c.loop-self.trail c.take_last.new.trail before.goes took.goes;
    }

pub returns-clause-back : goal.returns-clause-back
returns-clause-back c =
    let before = c.loop-self.invariant in back_at c.args.trail.now c.loop-self.trail c.args.number before.goes (omega (arith, c.loop-self-test.false, c.len.ensures)) before.within

pub returns-clause-count : goal.returns-clause-count
returns-clause-count c = let within = c.loop-self.invariant.within in omega (arith, within, c.loop-self-test.false, c.len.ensures)

pub returns-in_err-take_last-clause-within : goal.returns-in_err-take_last-clause-within
returns-in_err-take_last-clause-within c = let one = c.in_err-take_last.ensures.one in omega (arith, one, c.loop-self-test.true, c.len.ensures)

pub returns-in_err-take_last-clause-goes : goal.returns-in_err-take_last-clause-goes
returns-in_err-take_last-clause-goes c = goes_then c.args.trail.now c.loop-self.trail c.take_last.new.trail c.loop-self.invariant.goes c.in_err-take_last.ensures.goes
