use Rattle.std.proofs.Common.{ap, ◌∙◌}
use Rattle.fact_arms.specs.Differences.{is_among}
use Rattle.fact_arms.proofs.Settling.{nothing_made, nothing_left}
use Rattle.fact_arms.proofs.gathered.Gathered.nothing.Goals as goal

pub returns-clause-made : goal.returns-clause-made
returns-clause-made c = nothing_made c.of.result c.new.result c.new.ensures.said (λ s. ap (λ g. is_among g s) c.new.ensures.gone ∙ c.none.ensures s) c.of.ensures.difference

pub returns-clause-leaves : goal.returns-clause-leaves
returns-clause-leaves c = nothing_left c.of.result c.new.result c.new.ensures.said c.of.ensures.difference
