use Rattle.std.proofs.Common.{refl, ◌∙◌}
use Rattle.refine_flow.proofs.Assigning.{on_err}
use Rattle.refine_flow.proofs.Joints.{revived, stays_dead}
use Rattle.refine_flow.proofs.Dropping.{keeps_same}
use Rattle.refine_flow.proofs.MarkLemmas.{keeps_twice}
use Rattle.refine_flow.proofs.facts.Facts.revive.Goals as goal

pub returns-clause-facts : goal.returns-clause-facts
returns-clause-facts c = revived c.args.self.now c.clear.new.self c.take_over.new.self c.args.other.now c.in_ok-rows.rows.items c.requires.dead c.requires.live c.clear.ensures.types c.in_ok-rows.ensures.told c.in_ok-take_over.ensures.facts

pub returns-clause-marks : goal.returns-clause-marks
returns-clause-marks c =
    keeps_twice c.args.self.now c.take_over.new.self _ (keeps_twice c.args.self.now c.clear.new.self c.take_over.new.self c.clear.ensures.marks c.in_ok-take_over.ensures.marks) (keeps_same c.take_over.new.self _ refl refl refl)

pub returns-in_err-take_over-clause-err : goal.returns-in_err-take_over-clause-err
returns-in_err-take_over-clause-err c = on_err c.from_residual-in_err-take_over.result _ (stays_dead c.args.self.now c.take_over.new.self c.requires.dead (c.in_err-take_over.ensures.dead ∙ c.clear.ensures.dead ∙ c.requires.dead))

pub returns-in_err-take_over-clause-marks : goal.returns-in_err-take_over-clause-marks
returns-in_err-take_over-clause-marks c = keeps_twice c.args.self.now c.clear.new.self c.take_over.new.self c.clear.ensures.marks c.in_err-take_over.ensures.marks
