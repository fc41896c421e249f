use Rattle.std.proofs.Common.{sym}
use Rattle.fact_arms.specs.Differences.{over, before_last}
use Rattle.fact_arms.proofs.Moving.{last_some}
use Rattle.fact_arms.proofs.difference.Difference.add_last.Goals as goal

pub returns-in-Some : goal.returns-in-Some
returns-in-Some c = last_some c.add_change.result c.args.self.now c.add_change.new.self c.args.change c.in-Some.change c.in-Some.is c.add_change.ensures

pub returns-in-None : goal.returns-in-None
returns-in-None c = λ m. λ i. over c.args.self.now (before_last (sym c.in-None.is i) m)
