use Rattle.std.proofs.Common.{ap, ◌∙◌, ◌||◌}
use Rattle.fact_arms.specs.Differences.{is_among, is_gone}
use Rattle.fact_arms.proofs.Settling.{dropped_both}
use Rattle.fact_arms.proofs.difference.Difference.drop_with.Goals as goal

pub returns-clause-said : goal.returns-clause-said
returns-clause-said c = dropped_both c.args.arm.now c.args.self.now c.drop_variables.new.self c.drop_properties.new.self c.in_ok-drop_variables.ensures.said c.in_ok-drop_properties.ensures.said

pub returns-clause-gone : goal.returns-clause-gone
returns-clause-gone c = λ s. c.or-self.ensures s ∙ ap (λ g. is_gone c.args.arm.now s || is_among g s) (c.in_ok-drop_properties.ensures.gone ∙ c.in_ok-drop_variables.ensures.gone)
