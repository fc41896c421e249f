use Rattle.fact_trail.specs.Rows.{properties_of}
use Rattle.fact_trail.specs.Slots.{turned_cmp}
use Rattle.std.specs.BTreeSet.{contains}
use Rattle.fact_trail.proofs.Firsts.{low_of_first, none_of, first_owned}
use Rattle.fact_trail.proofs.properties.Properties.of.Goals as goal

pub returns-in-None : goal.returns-in-None
returns-in-None c = none_of (properties_of c.args.self.now) (contains turned_cmp c.args.self.now.turned) c.args.binding c.args.self.now.turned_too
    (λ q same. (c.range.ensures.in_range tt).5 c.in-None.ensures.steps.0 q (low_of_first c.args.binding q same, tt))

pub returns-else-turned-binding : goal.returns-else-turned-binding
returns-else-turned-binding c = let range = c.range.ensures.in_range tt in
    none_of (properties_of c.args.self.now) (contains turned_cmp c.args.self.now.turned) c.args.binding c.args.self.now.turned_too
    (first_owned (contains turned_cmp c.args.self.now.turned) c.args.binding c.range.result c.next.new.self c.in-Some.turned.now c.in-Some.ensures.steps range.1 range.2 c.if-turned-binding.false)
