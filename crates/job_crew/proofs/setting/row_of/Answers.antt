use Rattle.std.proofs.Common.{List, sym, subst, arith}
use Rattle.job_seats.specs.declared.place.Link.{Link}
use Rattle.job_crew.specs.Tying.{HasLinked}
use Rattle.job_crew.proofs.Linked.{linked_none, some_parts, linked_more}
use Rattle.job_crew.proofs.setting.row_of.Goals as goal

pub loop-k-init : goal.loop-k-init
loop-k-init g c = subst (λ (ls : List Link). HasLinked c.args.rows 0 c.args.seats.now c.args.seats.now ls) (sym c.new-links.ensures.items) (linked_none c.args.rows c.args.seats.now c.requires.parts)

pub link_to-requires : goal.link_to-requires
link_to-requires g c = some_parts c.args.rows c.loop-k.k c.args.seats.now c.loop-k.seats c.loop-k.links.items c.index-seats-k.result c.requires.within.0 c.requires.within.1 (omega arith) c.loop-k.invariant

pub loop-k-preserved : goal.loop-k-preserved
loop-k-preserved g c =
    let is = c.in_ok-link.ensures.link in
    linked_more c.args.rows c.loop-k.k c.args.seats.now c.loop-k.seats c.loop-k.links.items _ c.in_ok-link.link c.link_to.new.seat c.index-seats-k.result (omega arith) c.loop-k.invariant c.in_ok-link.ensures.same c.in_ok-link.ensures.parts is.0 is.1 is.2 c.in_ok-push.ensures.items
