use Rattle.std.proofs.Common.{sym, ◌∙◌}
use Rattle.subtyping.proofs.Lifted.{lost_by_looks}
use Rattle.subtype_rules.proofs.losing.is_apart.Goals as goal

pub returns-then-has_no_ways : goal.returns-then-has_no_ways
returns-then-has_no_ways c = λ _ named. lost_by_looks (c.args.a.now, c.args.b.now) (sym c.has_no_ways.ensures ∙ c.if-has_no_ways.true) named
