use Rattle.std.proofs.Common.{refl, sym, ap, ◌∙◌}
use Rattle.fact_trail.specs.Moments.{with_class}
use Rattle.fact_arms.specs.Differences.{over}
use Rattle.fact_arms.proofs.Over.{popped_of_class, variables_gone, variables_settled}
use Rattle.fact_arms.proofs.difference.Difference.add_class.Goals as goal

pub returns-then-has_variables : goal.returns-then-has_variables
returns-then-has_variables c = variables_settled c.args.self.now c.args.facts c.is_constant-constant.result c.has_variables.result c.is_constant-constant.ensures c.has_variables.ensures c.if-has_variables.true

pub loop-binding-init : goal.loop-binding-init
loop-binding-init c = record { made = λ m. refl; constant = refl }

pub loop-binding-preserved : goal.loop-binding-preserved
loop-binding-preserved c = record {
  made = λ m.
      c.in_ok-add.ensures.made (with_class c.pop.new.self m)
      ∙ ap (over c.loop-binding.self) (sym (popped_of_class c.loop-binding.facts c.pop.new.self c.in-Some.binding c.in-Some.fact c.in-Some.ensures.was c.in-Some.ensures.own c.pop.ensures.class c.in-Some.ensures.facts m))
      ∙ c.loop-binding.invariant.made m;
  constant = c.pop.ensures.class ∙ c.loop-binding.invariant.constant;
}

pub returns : goal.returns
returns c = λ m.
    variables_gone c.loop-binding.self (record c.loop-binding.self { gone = c.with_variables-self.result }) c.loop-binding.facts c.is_constant-constant.result (c.is_constant-constant.ensures ∙ sym c.loop-binding.invariant.constant) (λ s. refl) c.with_variables-self.ensures c.in_default.ensures.none m ∙ c.loop-binding.invariant.made m
