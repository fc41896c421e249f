use Rattle.std.proofs.Common.{refl, ◌∙◌}
use Rattle.job_seats.proofs.Drawing.{own_drew, own_seat, low_result}
use Rattle.job_seats.proofs.Leaving.{told_plainly, left_whole, left_fewer}
use Rattle.job_seats.proofs.place.draw_left.Goals as goal

pub returns-clause-drew : goal.returns-clause-drew
returns-clause-drew g c = own_drew _ _ _ _ c.requires.seat c.leftover.ensures.same.0 refl (told_plainly _ _ _ c.leftover.ensures.taken)

pub returns-clause-seat : goal.returns-clause-seat
returns-clause-seat g c = own_seat _ _ _ c.leftover.result c.requires.seat (c.leftover.ensures.same.1 ∙ c.requires.seat.flavor) (returns-clause-drew g c)

pub returns-clause-low : goal.returns-clause-low
returns-clause-low g c = low_result _ _ _ _ c.requires.seat.below (told_plainly _ _ _ c.leftover.ensures.taken)

pub returns-clause-whole : goal.returns-clause-whole
returns-clause-whole g c = left_whole _ _ _ c.requires.whole c.leftover.ensures.taken

pub returns-clause-left : goal.returns-clause-left
returns-clause-left g c = left_fewer _ _ _ c.leftover.ensures.taken
