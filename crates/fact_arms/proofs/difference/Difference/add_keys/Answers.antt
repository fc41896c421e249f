use Rattle.std.proofs.Common.{refl, sym, ap, ◌∙◌}
use Rattle.fact_arms.specs.Differences.{over, with_keys}
use Rattle.fact_arms.proofs.Over.{popped_key, ended_keys}
use Rattle.fact_arms.proofs.difference.Difference.add_keys.Goals as goal

pub loop-key-init : goal.loop-key-init
loop-key-init c = record { made = λ m. refl; gone = refl }

pub loop-key-preserved : goal.loop-key-preserved
loop-key-preserved c = record {
  made = λ m.
      c.in_ok-add.ensures.made (with_keys c.pop_first.new.self m)
      ∙ ap (over c.loop-key.self) (sym (popped_key c.loop-key.rows c.pop_first.new.self c.in-Some.key c.in-Some.fact c.in-Some.ensures.value c.in-Some.ensures.updates m))
      ∙ c.loop-key.invariant.made m;
  gone = c.in_ok-add.ensures.gone ∙ c.loop-key.invariant.gone;
}

pub returns-clause-made : goal.returns-clause-made
returns-clause-made c = λ m. ap (over c.loop-key.self) (sym (ended_keys c.loop-key.rows c.in_default.ensures.variant.1 m)) ∙ c.loop-key.invariant.made m
