use Rattle.std.proofs.Common.{arith}
use Rattle.number_draws.proofs.Moves.{accounts}
use Rattle.number_draws.proofs.deque.account.Goals as goal

pub len_as-held-requires : goal.len_as-held-requires
len_as-held-requires c = accounts _ _

pub returns-clause-taken : goal.returns-clause-taken
returns-clause-taken c = λ h. let all = c.len_as-held.ensures.rule.2 c.requires h in omega arith
