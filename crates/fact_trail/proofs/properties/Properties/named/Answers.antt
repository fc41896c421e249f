use Rattle.fact_trail.specs.Rows.{properties_of}
use Rattle.fact_trail.proofs.Firsts.{low_first, first_named, least_named}
use Rattle.fact_trail.proofs.properties.Properties.named.Goals as goal

pub returns-in-None : goal.returns-in-None
returns-in-None c = λ q same. (c.range.ensures.in_range tt).5 c.in-None.ensures.steps.0 q (low_first c.args.name q same, tt)

pub returns-then-key-name : goal.returns-then-key-name
returns-then-key-name c = let range = c.range.ensures.in_range tt in
    least_named (properties_of c.args.self.now) c.args.name c.range.result c.next.new.self (c.in-Some.key.now, c.in-Some.field-0-1.now) c.in-Some.ensures.steps range.1 range.2 c.if-key-name.true

pub returns-else-key-name : goal.returns-else-key-name
returns-else-key-name c = let range = c.range.ensures.in_range tt in
    first_named (properties_of c.args.self.now) c.args.name c.range.result c.next.new.self (c.in-Some.key.now, c.in-Some.field-0-1.now) c.in-Some.ensures.steps range.1 range.2 c.if-key-name.false
