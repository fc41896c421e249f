use Rattle.std.proofs.Common.{rules}
use Rattle.type_joins.proofs.Plain.{join_back}
use Rattle.type_joins.proofs.joining.join_behind.Goals as goal

pub returns-then-are_plain : goal.returns-then-are_plain
returns-then-are_plain c =
    join_back c.args.one.now c.args.union.now _ c.args.all.now _ c.requires.union (search rules) (search rules) c.requires.settled c.in_ok-kept.ensures c.in_ok-joined.ensures
