use Rattle.std.proofs.Common.{arith}
use Rattle.subtype_rules.proofs.LostPairs.{lost_at}
use Rattle.subtype_rules.proofs.losing.has_apart.Goals as goal

pub returns-then-is_apart : goal.returns-then-is_apart
returns-then-is_apart c = λ _ named. lost_at named c.args.all.now c.args.b.now c.loop-i.i c.index-all-i.result (omega (arith, c.loop-i-test.true)) c.index-all-i.is (c.is_apart.ensures c.if-is_apart.true named)
