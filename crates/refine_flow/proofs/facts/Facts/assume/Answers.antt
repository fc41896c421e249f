use Rattle.std.proofs.Common.{Some}
use Rattle.alias_members.specs.MembersIn.{members_in}
use Rattle.flow_facts.specs.Known.{at_place}
use Rattle.refine_flow.proofs.Assigning.{assumed}
use Rattle.refine_flow.proofs.Dropping.{settled_marks}
use Rattle.refine_flow.proofs.facts.Facts.assume.Goals as goal

pub returns-clause-facts : goal.returns-clause-facts
returns-clause-facts c =
    assumed (members_in c.args.table.now) c.args.test.now c.args.place.now c.args.declared.now c.in_ok-before.before c.in_ok-ty.ty c.args.self.now c.put.new.self c.settle.new.self c.if-self.false c.in_ok-before.ensures c.in_ok-ty.ensures c.in_ok-put.ensures.facts c.settle.ensures.facts

pub returns-clause-marks : goal.returns-clause-marks
returns-clause-marks c = settled_marks (at_place c.args.place.now (Some c.in_ok-ty.ty)) c.args.self.now c.put.new.self c.settle.new.self c.in_ok-put.ensures.facts c.settle.ensures.marks
