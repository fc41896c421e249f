use Rattle.std.proofs.Common.{refl, sym, subst}
use Rattle.job_seats.specs.declared.place.Link.{Link}
use Rattle.job_seats.specs.Seats.{IsLink}
use Rattle.job_seats.proofs.Drawing.{link_drew, link_low, link_at, own_seat}
use Rattle.job_seats.proofs.place.draw_by.Goals as goal

pub steal_by-requires : goal.steal_by-requires
steal_by-requires g c = subst (λ (l : Link). IsLink l) (sym c.index_mut.ensures.value) (link_at c.args.seat.now.links.items c.args.k _ c.requires.seat.links c.requires.within)

pub returns-clause-drew : goal.returns-clause-drew
returns-clause-drew g c = link_drew c.args.end c.args.seat.now _ c.args.k c.index_mut.result.now c.steal_by.new.link c.steal_by.result c.requires.seat c.requires.within c.index_mut.ensures.value c.steal_by.ensures.taken refl refl refl c.steal_by.ensures.same

pub returns-clause-seat : goal.returns-clause-seat
returns-clause-seat g c = own_seat c.args.end c.args.seat.now _ c.steal_by.result c.requires.seat c.requires.seat.flavor (returns-clause-drew g c)

pub returns-clause-low : goal.returns-clause-low
returns-clause-low g c = link_low c.args.end c.args.seat.now c.args.seat.now c.args.k c.index_mut.result.now c.steal_by.new.link c.steal_by.result c.requires.seat c.requires.within c.index_mut.ensures.value c.steal_by.ensures.taken
