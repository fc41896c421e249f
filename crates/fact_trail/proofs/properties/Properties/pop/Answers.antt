use Rattle.fact_trail.proofs.Kept.{empty_less}
use Rattle.fact_trail.specs.Slots.{key_cmp}
use Rattle.fact_trail.proofs.properties.Properties.pop.Goals as goal

pub returns-clause-none : goal.returns-clause-none
returns-clause-none c = empty_less key_cmp c.pop_first.result c.args.self.now.rows c.pop_first.ensures.variant
