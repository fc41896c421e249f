use Rattle.std.proofs.Common.{refl, sym, ap, ◌∙◌}
use Rattle.fact_trail.specs.Moments.{with_properties}
use Rattle.fact_arms.specs.Differences.{over}
use Rattle.fact_arms.proofs.Over.{popped_property, properties_gone, properties_settled}
use Rattle.fact_arms.proofs.difference.Difference.add_properties.Goals as goal

pub returns-then-self : goal.returns-then-self
returns-then-self c = properties_settled c.args.self.now c.args.properties c.if-self.true

pub loop-key-init : goal.loop-key-init
loop-key-init c = λ m. refl

pub loop-key-preserved : goal.loop-key-preserved
loop-key-preserved c = λ m.
    c.in_ok-add.ensures.made (with_properties c.pop.new.self m)
    ∙ ap (over c.loop-key.self) (sym (popped_property c.loop-key.properties c.pop.new.self c.in-Some.key c.in-Some.fact c.in-Some.ensures.was c.in-Some.ensures.facts m))
    ∙ c.loop-key.invariant m

pub returns : goal.returns
returns c = λ m. properties_gone c.loop-key.self (record c.loop-key.self { gone = c.with_properties-self.result }) c.loop-key.properties (λ s. refl) c.with_properties-self.ensures c.in_default.ensures.none m ∙ c.loop-key.invariant m
