use Rattle.std.proofs.Common.{refl}
use Rattle.refine_flow.proofs.Dropping.{keeps_same}
use Rattle.refine_flow.proofs.MarkLemmas.{keeps_itself}
use Rattle.refine_flow.proofs.Gathers.{dead_with, alone_known, alone_gathers, met_with, met_gathered}
use Rattle.refine_flow.proofs.facts.Facts.gather_arm.Goals as goal

pub returns-then-dead-clause-facts : goal.returns-then-dead-clause-facts
returns-then-dead-clause-facts c = dead_with c.args.gathered c.args.mark.now c.args.arm c.args.self.now c.if-dead.true

pub returns-then-dead-clause-marks : goal.returns-then-dead-clause-marks
returns-then-dead-clause-marks c = keeps_itself c.args.self.now

pub returns-then-self-clause-facts : goal.returns-then-self-clause-facts
returns-then-self-clause-facts c = alone_known c.of.result c.args.gathered c.args.mark.now c.args.arm c.args.self.now c.if-dead.false c.if-self.true c.requires.at c.of.ensures.difference

pub returns-then-self-clause-gathered : goal.returns-then-self-clause-gathered
returns-then-self-clause-gathered c = alone_gathers c.of.result c.args.arm c.args.self.now _ refl refl c.requires.arm c.of.ensures.difference c.of.ensures.settled

pub returns-then-self-clause-marks : goal.returns-then-self-clause-marks
returns-then-self-clause-marks c = keeps_same c.args.self.now _ refl refl refl

pub returns-clause-facts : goal.returns-clause-facts
returns-clause-facts c = met_with c.args.gathered c.meet.new.self c.args.mark.now c.args.arm c.args.self.now c.if-dead.false c.if-self.false c.requires.at c.in_ok-meet.ensures.joined

pub returns-clause-gathered : goal.returns-clause-gathered
returns-clause-gathered c = met_gathered c.args.gathered c.meet.new.self c.args.arm c.args.self.now c.requires.arm c.in_ok-meet.ensures.settled c.in_ok-meet.ensures.joined

pub returns-clause-marks : goal.returns-clause-marks
returns-clause-marks c = keeps_itself c.args.self.now
