use Rattle.std.proofs.Common.{refl}
use Rattle.refine_flow.proofs.Turning.{arm_stays}
use Rattle.refine_flow.proofs.Gathers.{way_spent, gathered_same, way_met}
use Rattle.refine_flow.proofs.facts.Facts.gather_way.Goals as goal

pub gather_arm-requires : goal.gather_arm-requires
gather_arm-requires c = record {
  at = c.in_ok-gathered.ensures.at;
  arm = arm_stays c.args.mark c.args.arm c.args.self.now c.gather_back.new.self c.requires.mark c.requires.arm c.in_ok-gathered.ensures.marks;
  gathered = c.in_ok-gathered.ensures.gathered;
}

pub returns-clause-facts : goal.returns-clause-facts
returns-clause-facts c =
    way_met c.args.gathered c.in_ok-gathered.gathered c.in_ok-gathered-2.gathered c.args.mark c.args.arm c.args.self.now c.gather_back.new.self c.gather_arm.new.self c.requires.mark c.requires.arm c.in_ok-gathered.ensures.marks
    c.in_ok-gathered.ensures.facts c.in_ok-gathered-2.ensures.facts

pub returns-clause-gathered : goal.returns-clause-gathered
returns-clause-gathered c = gathered_same c.in_ok-gathered-2.gathered c.gather_arm.new.self _ refl refl c.in_ok-gathered-2.ensures.gathered

pub returns-clause-marks : goal.returns-clause-marks
returns-clause-marks c = way_spent c.args.mark c.args.self.now c.gather_back.new.self c.gather_arm.new.self _ c.in_ok-gathered.ensures.marks c.gather_arm.ensures.marks refl refl refl
