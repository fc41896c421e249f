use Rattle.script_line.proofs.Questions.{asks_more, asks_none}
use Rattle.script_line.proofs.beside.asks_of.Goals as goal

pub returns-in_default-clause-none : goal.returns-in_default-clause-none
returns-in_default-clause-none c = asks_none c.args.values.now c.loop-value.value-index c.value-item.result c.loop-value-test.true c.value-item.is (rw c.in_default.is at c.in_ok-ask.ensures.none)

pub loop-value-preserved : goal.loop-value-preserved
loop-value-preserved c =
    asks_more c.args.values.now c.loop-value.value-index c.value-item.result c.loop-value.asks c.push.new.self c.in-Some.ask c.loop-value-test.true c.value-item.is c.loop-value.invariant (rw c.in-Some.is at c.in_ok-ask.ensures.asks) c.in_ok-push.ensures.ok
