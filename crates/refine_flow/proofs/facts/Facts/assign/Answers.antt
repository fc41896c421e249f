use Rattle.alias_members.specs.MembersIn.{members_in}
use Rattle.subtype_rules.specs.Answer.{below}
use Rattle.flow_facts.specs.Known.{without, overwrites}
use Rattle.refine_flow.specs.Standing.{with_told}
use Rattle.std.proofs.Common.{refl}
use Rattle.refine_flow.proofs.Assigning.{assigned_told, known_same, on_err}
use Rattle.refine_flow.proofs.Dropping.{settled_marks}
use Rattle.refine_flow.proofs.facts.Facts.assign.Goals as goal

pub returns-clause-facts : goal.returns-clause-facts
returns-clause-facts c =
    assigned_told (members_in c.args.table.now) (below c.args.table.now) c.args.place.now c.args.declared.now c.args.value.now c.in_ok-told.told c.args.self.now c.assign_told.new.self c.settle.new.self c.in_ok-told.ensures c.in_ok-assign_told.ensures.facts
    c.settle.ensures.facts

pub returns-clause-marks : goal.returns-clause-marks
returns-clause-marks c =
    settled_marks (λ m. with_told c.args.place.now c.in_ok-told.told (without (overwrites c.args.place.now) m)) c.args.self.now c.assign_told.new.self c.settle.new.self c.in_ok-assign_told.ensures.facts c.settle.ensures.marks

pub returns-in_err-assign_told-clause-err : goal.returns-in_err-assign_told-clause-err
returns-in_err-assign_told-clause-err c = on_err c.from_residual-in_err-assign_told.result _ (known_same c.args.self.now c.assign_told.new.self c.assign_told.new.self c.in_err-assign_told.ensures.err refl)
