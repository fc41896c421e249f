use Rattle.std.proofs.Common.{refl, sym, ap, ◌∙◌}
use Rattle.fact_arms.specs.Differences.{over, with_variables}
use Rattle.fact_arms.proofs.Over.{popped_variable, ended_variables}
use Rattle.fact_arms.proofs.difference.Difference.add_variables.Goals as goal

pub loop-binding-init : goal.loop-binding-init
loop-binding-init c = record { made = λ m. refl; gone = refl }

pub loop-binding-preserved : goal.loop-binding-preserved
loop-binding-preserved c = record {
  made = λ m.
      c.in_ok-add.ensures.made (with_variables c.pop_first.new.self m)
      ∙ ap (over c.loop-binding.self) (sym (popped_variable c.loop-binding.rows c.pop_first.new.self c.in-Some.binding c.in-Some.fact c.in-Some.ensures.value c.in-Some.ensures.updates m))
      ∙ c.loop-binding.invariant.made m;
  gone = c.in_ok-add.ensures.gone ∙ c.loop-binding.invariant.gone;
}

pub returns-clause-made : goal.returns-clause-made
returns-clause-made c = λ m. ap (over c.loop-binding.self) (sym (ended_variables c.loop-binding.rows c.in_default.ensures.variant.1 m)) ∙ c.loop-binding.invariant.made m
