use Rattle.std.proofs.Common.{refl}
use Rattle.fact_trail.proofs.Changes.{class_goes, class_stays}
use Rattle.fact_trail.proofs.trail.Trail.drop_variables.Goals as goal

pub returns-then-is_empty : goal.returns-then-is_empty
returns-then-is_empty c =
    class_stays c.args.constant c.new-none.result c.replace-facts.result c.args.self.now _ c.new-none.ensures.facts c.new-none.ensures.class c.replace-facts.ensures.facts c.replace-facts.ensures.was c.is_empty.result c.is_empty.ensures c.if-is_empty.true refl
    refl

pub returns : goal.returns
returns c =
    class_goes c.args.constant c.new-none.result c.replace-facts.result c.args.self.now _ c.new-none.ensures.facts c.new-none.ensures.class c.replace-facts.ensures.facts c.replace-facts.ensures.was c.replace-facts.ensures.class refl
    c.push_reserved.ensures.items
