use Rattle.std.proofs.Common.{Some, sym, ap}
use Rattle.flow_facts.specs.Known.{both}
use Rattle.refine_flow.proofs.Joints.{left_as}
use Rattle.refine_flow.proofs.whole.joint.Goals as goal

pub returns-in-Some-clause-left : goal.returns-in-Some-clause-left
returns-in-Some-clause-left c = left_as c.joint_with.result c.args.row.now.ty c.args.second (Some c.in-Some.second) c.in-Some.is c.joint_with.ensures.left

pub returns-in-None-clause-left : goal.returns-in-None-clause-left
returns-in-None-clause-left c = ap (both (Some c.args.row.now.ty)) (sym c.in-None.is)
