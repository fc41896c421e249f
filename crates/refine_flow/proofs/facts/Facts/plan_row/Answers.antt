use Rattle.std.proofs.Common.{Some, None, sym, ap, ◌∙◌}
use Rattle.flow_facts.specs.declared.test.Cell.TheVariants.{Stays, Gone, Becomes}
use Rattle.refine_flow.specs.Standing.{shown}
use Rattle.refine_flow.proofs.Joints.{joins_stays, joins_next, cell_left, joint_as}
use Rattle.refine_flow.proofs.facts.Facts.plan_row.Goals as goal

pub returns-in-Stays : goal.returns-in-Stays
returns-in-Stays c =
    joins_stays c.args.self.now.names (shown c.args.others.now) (shown c.args.self.now) c.args.row.now c.args.plan.now.items c.requires
    (sym (cell_left c.args.row.now.ty c.in_ok-cell.cell Stays c.in_ok-theirs.theirs (shown c.args.others.now c.args.row.now.place) c.in_ok-cell.ensures.left c.in-Stays.is c.in_ok-theirs.ensures))

pub returns-in-Gone : goal.returns-in-Gone
returns-in-Gone c =
    joins_next c.plan_at.result c.args.self.now.names (shown c.args.others.now) (shown c.args.self.now) c.args.row.now None c.args.plan.now.items c.plan_at.new.plan.items c.requires
    (cell_left c.args.row.now.ty c.in_ok-cell.cell Gone c.in_ok-theirs.theirs (shown c.args.others.now c.args.row.now.place) c.in_ok-cell.ensures.left c.in-Gone.is c.in_ok-theirs.ensures) tt c.plan_at.ensures

pub settled-fact-requires : goal.settled-fact-requires
settled-fact-requires c = joint_as c.in_ok-cell.cell (Becomes c.in-Becomes.ty) c.in-Becomes.is c.in_ok-cell.ensures.settled

pub returns-in-Becomes : goal.returns-in-Becomes
returns-in-Becomes c =
    joins_next c.plan_at-in-Becomes.result c.args.self.now.names (shown c.args.others.now) (shown c.args.self.now) c.args.row.now (Some c.settled-fact.result) c.args.plan.now.items c.plan_at-in-Becomes.new.plan.items c.requires
    (ap Some c.settled-fact.ensures.ty ∙ cell_left c.args.row.now.ty c.in_ok-cell.cell (Becomes c.in-Becomes.ty) c.in_ok-theirs.theirs (shown c.args.others.now c.args.row.now.place) c.in_ok-cell.ensures.left c.in-Becomes.is c.in_ok-theirs.ensures)
    c.settled-fact.ensures.rough c.plan_at-in-Becomes.ensures
