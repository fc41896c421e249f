use Rattle.refine_flow.proofs.Turning.{last_of, kept_up_to_all, kept_up_to_then, dead_arm, resumed, arm_joined, arm_stays}
use Rattle.refine_flow.proofs.MarkLemmas.{keeps_itself}
use Rattle.refine_flow.proofs.facts.Facts.join_arm.Goals as goal

pub returns-then-arm-clause-facts : goal.returns-then-arm-clause-facts
returns-then-arm-clause-facts c = dead_arm c.args.mark.now c.args.arm.now c.args.self.now c.if-arm.true

pub returns-then-arm-clause-marks : goal.returns-then-arm-clause-marks
returns-then-arm-clause-marks c = kept_up_to_all c.args.mark.now c.args.self.now c.args.self.now (keeps_itself c.args.self.now)

pub resume-requires : goal.resume-requires
resume-requires c =
    let is = last_of c.args.mark.now c.args.self.now c.requires.mark in
    record {
      mark = ((c.in_ok-turn.ensures.marks.each c.args.mark.now is.0 is.1).0, c.in_ok-turn.ensures.at);
      arm = arm_stays c.args.mark.now c.args.arm.now c.args.self.now c.turn.new.self c.requires.mark c.requires.arm c.in_ok-turn.ensures.marks;
    }

pub returns-then-self-clause-facts : goal.returns-then-self-clause-facts
returns-then-self-clause-facts c =
    resumed c.resume.result c.args.mark.now c.args.arm.now c.args.self.now c.turn.new.self c.resume.new.self c.if-arm.false c.if-self.true c.requires.mark c.requires.arm c.in_ok-turn.ensures.marks c.resume.ensures.facts

pub returns-then-self-clause-marks : goal.returns-then-self-clause-marks
returns-then-self-clause-marks c = kept_up_to_then c.args.mark.now c.args.self.now c.turn.new.self c.resume.new.self c.in_ok-turn.ensures.marks c.resume.ensures.marks

pub join_arms-requires : goal.join_arms-requires
join_arms-requires c = record {
  at = c.in_ok-ours.ensures.at;
  arm = arm_stays c.args.mark.now c.args.arm.now c.args.self.now c.turn-2.new.self c.requires.mark c.requires.arm c.in_ok-ours.ensures.marks;
  ours = c.in_ok-ours.ensures.arm.0;
}

pub returns-clause-facts : goal.returns-clause-facts
returns-clause-facts c =
    arm_joined c.join_arms.result c.args.mark.now c.args.arm.now c.in_ok-ours.ours c.args.self.now c.turn-2.new.self c.join_arms.new.self c.if-arm.false c.if-self.false c.requires.mark c.requires.arm c.in_ok-ours.ensures.marks
    c.in_ok-ours.ensures.arm.1 c.join_arms.ensures.facts

pub returns-clause-marks : goal.returns-clause-marks
returns-clause-marks c = kept_up_to_then c.args.mark.now c.args.self.now c.turn-2.new.self c.join_arms.new.self c.in_ok-ours.ensures.marks c.join_arms.ensures.marks
