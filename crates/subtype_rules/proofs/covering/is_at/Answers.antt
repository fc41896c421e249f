use Rattle.std.proofs.Common.{arith}
use Rattle.subtype_rules.proofs.Covers.{at_place}
use Rattle.subtype_rules.proofs.covering.is_at.Goals as goal

pub returns : goal.returns
returns c = λ yes. at_place c.args.all.now c.args.k c.index-all-k.result c.args.x.now (omega arith) c.index-all-k.is (c.equals.ensures.0 yes)
