use Rattle.std.proofs.Common.{arith, Some}
use Rattle.heap_runs.proofs.Lanes.{last_fresh, rest_fresh}
use Rattle.heap_runs.proofs.readers.readers_of.Goals as goal

pub invariant_of-push : goal.invariant_of-push
invariant_of-push c =
    let o = last_fresh c.args.heap.now c.loop-i.lanes c.pop.new.self (Some c.in-Some.lane) c.loop-i.invariant c.in-Some.ensures in
    let few = c.requires.1 in let none = o.1 in record { of = o.0; room = omega arith }

pub loop-i-preserved : goal.loop-i-preserved
loop-i-preserved c = rest_fresh c.args.heap.now c.loop-i.lanes c.pop.new.self (Some c.in-Some.lane) c.loop-i.invariant c.in-Some.ensures
