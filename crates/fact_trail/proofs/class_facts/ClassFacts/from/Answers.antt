use Rattle.fact_trail.specs.Rows.{class_facts_of}
use Rattle.fact_trail.proofs.Firsts.{in_range_from, first_number}
use Rattle.fact_trail.proofs.class_facts.ClassFacts.from.Goals as goal

pub returns-in-None : goal.returns-in-None
returns-in-None c = λ b within. (c.range.ensures.in_range tt).5 c.in-None.ensures.steps.0 b (in_range_from c.args.binding b within)

pub returns-in-Some : goal.returns-in-Some
returns-in-Some c = let range = c.range.ensures.in_range tt in
    first_number (class_facts_of c.args.self.now) c.args.binding c.range.result c.next.new.self (c.in-Some.next.now, c.in-Some.field-0-1.now) c.in-Some.ensures.steps range.1 range.2
