use Rattle.fact_trail.specs.Rows.{properties_of}
use Rattle.fact_trail.proofs.Firsts.{next_named, none_behind}
use Rattle.fact_trail.proofs.properties.Properties.behind.Goals as goal

pub returns-in-None : goal.returns-in-None
returns-in-None c = λ q same after. (c.range.ensures.in_range tt).5 c.in-None.ensures.steps.0 q (after, tt)

pub returns-then-next-key : goal.returns-then-next-key
returns-then-next-key c = let range = c.range.ensures.in_range tt in
    next_named (properties_of c.args.self.now) c.args.key c.range.result c.next.new.self (c.in-Some.next.now, c.in-Some.field-0-1.now) c.in-Some.ensures.steps range.1 c.if-next-key.true

pub returns-else-next-key : goal.returns-else-next-key
returns-else-next-key c = let range = c.range.ensures.in_range tt in
    none_behind (properties_of c.args.self.now) c.args.key c.range.result c.next.new.self (c.in-Some.next.now, c.in-Some.field-0-1.now) c.in-Some.ensures.steps range.1 range.2 c.if-next-key.false
