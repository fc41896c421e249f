use Rattle.std.proofs.Common.{refl, ◌∙◌}
use Rattle.job_seats.proofs.Drawing.{own_drew, own_seat, low_result}
use Rattle.job_seats.proofs.place.draw_own.Goals as goal

pub returns-clause-drew : goal.returns-clause-drew
returns-clause-drew g c = own_drew _ _ _ _ c.requires c.pop.ensures.same.0 refl c.pop.ensures.taken

pub returns-clause-seat : goal.returns-clause-seat
returns-clause-seat g c = own_seat _ _ _ c.pop.result c.requires (c.pop.ensures.same.1 ∙ c.requires.flavor) (returns-clause-drew g c)

pub returns-clause-low : goal.returns-clause-low
returns-clause-low g c = low_result _ _ _ _ c.requires.below c.pop.ensures.taken
