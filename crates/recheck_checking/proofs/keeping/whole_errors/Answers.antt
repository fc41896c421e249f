use Rattle.std.proofs.Common.{length, rules}
use Rattle.std.proofs.lemmas.Iterator.Adapters.{YieldsList-from_vec}
use Rattle.std.proofs.lemmas.Iterator.Consumers.{YieldsList-turn}
use Rattle.recheck_checking.proofs.Clears.{never_empty}
use Rattle.recheck_checking.proofs.keeping.whole_errors.Goals as goal

-- each slot comes in its turn
pub unreachable-requires : goal.unreachable-requires
unreachable-requires c =
    let turn =
    YieldsList-turn (YieldsList-from_vec {s = c.into_iter-slot-iterator.result} c.args.slots.items (search rules) (search rules))
    c.loop-slot.yielded c.loop-slot.slot-iterator c.loop-slot.yielded_by c.next.result c.next.new.self c.in-Some.slot c.in-Some.is c.next.ensures.steps in
    never_empty c.args.slots.items (length c.loop-slot.yielded) c.in-Some.slot c.requires.filled turn.0 turn.1 c.in-None-slot.is
