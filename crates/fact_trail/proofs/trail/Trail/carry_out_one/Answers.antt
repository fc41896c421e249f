use Rattle.std.proofs.Common.{sym, ap, ◌∙◌, arith}
use Rattle.fact_trail.specs.Slots.{at_slot}
use Rattle.fact_trail.specs.Moments.{map_of}
use Rattle.fact_trail.proofs.trail.Trail.carry_out_one.Goals as goal

pub returns-in-Some-clause-facts : goal.returns-in-Some-clause-facts
returns-in-Some-clause-facts c = c.replace.ensures.facts ∙ ap (λ o. at_slot c.args.planned.slot o (map_of c.args.self.now)) (sym c.in-Some.is)

pub returns-in-None-clause-facts : goal.returns-in-None-clause-facts
returns-in-None-clause-facts c = c.remove.ensures.drops.facts ∙ ap (λ o. at_slot c.args.planned.slot o (map_of c.args.self.now)) (sym c.in-None.is)

pub returns-in-None-clause-room : goal.returns-in-None-clause-room
returns-in-None-clause-room c = λ count had. c.remove.ensures.room count (omega (arith, had))
