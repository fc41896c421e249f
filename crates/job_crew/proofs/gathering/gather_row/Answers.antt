use Rattle.std.proofs.Common.{◌∙◌}
use Rattle.job_crew.proofs.Returned.{returning_none, returned_low, returned_link, returned_part, returned_more}
use Rattle.job_crew.proofs.gathering.gather_row.Goals as goal

pub row-init : goal.row-init
row-init g c = returning_none c.args.rows c.args.seats.now c.args.links.items c.requires.links c.requires.parts

pub has_place-requires : goal.has_place-requires
has_place-requires g c = returned_low c.args.rows c.args.seats.now c.row.seats c.args.links.items c.row.links.items c.pop.new.self.items c.in-Some.link _ (c.len-at.ensures ∙ c.pop.new.self.ok.0) c.in-Some.ensures.items c.row.invariant

pub gather_to-requires-clause-link : goal.gather_to-requires-clause-link
gather_to-requires-clause-link g c = returned_link c.args.rows c.args.seats.now c.row.seats c.args.links.items c.row.links.items c.pop.new.self.items c.in-Some.link _ (c.len-at.ensures ∙ c.pop.new.self.ok.0) c.in-Some.ensures.items c.row.invariant c.index-seats-at.result

pub gather_to-requires-clause-part : goal.gather_to-requires-clause-part
gather_to-requires-clause-part g c =
    returned_part c.args.rows c.args.seats.now c.row.seats c.args.links.items c.row.links.items c.pop.new.self.items c.in-Some.link _ (c.len-at.ensures ∙ c.pop.new.self.ok.0) c.in-Some.ensures.items c.row.invariant c.index-seats-at.result c.requires.within.0 c.requires.within.1

pub row-preserved : goal.row-preserved
row-preserved g c =
    returned_more c.args.rows c.args.seats.now c.row.seats c.args.links.items c.row.links.items c.pop.new.self.items c.in-Some.link _ (c.len-at.ensures ∙ c.pop.new.self.ok.0) c.in-Some.ensures.items c.row.invariant c.index-seats-at.result c.gather_to.new.seat
    c.gather_to.ensures.same c.gather_to.ensures.parts c.gather_to.ensures.taken
