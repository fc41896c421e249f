use Rattle.std.proofs.Common.{◌==◌}
use Rattle.std.specs.List.{list_any}
use Rattle.refine_flow.proofs.Assigning.{dead_left_out, others_left_out}
use Rattle.refine_flow.proofs.facts.Facts.keep_variables.Goals as goal

pub returns-then-self : goal.returns-then-self
returns-then-self c = dead_left_out c.args.self.now _ (λ b. list_any (λ x. x == b) c.args.constants.now) c.if-self.true c.drop_others.ensures.names c.drop_others.ensures.dead c.drop_others.ensures.marks c.drop_others.ensures.trail

pub returns-else-self : goal.returns-else-self
returns-else-self c =
    others_left_out c.args.self.now _ (λ b. list_any (λ x. x == b) c.args.constants.now) c.if-self.false c.drop_others-else-self.ensures.names c.drop_others-else-self.ensures.dead c.drop_others-else-self.ensures.marks c.drop_others-else-self.ensures.trail
