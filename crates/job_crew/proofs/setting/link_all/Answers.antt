use Rattle.std.proofs.Common.{length, slice_index_or, refl, arith}
use Rattle.job_seats.specs.declared.place.Seat.{Seat}
use Rattle.job_crew.proofs.Linked.{rows_none, rows_more}
use Rattle.job_crew.proofs.setting.link_all.Goals as goal

pub loop-me-init : goal.loop-me-init
loop-me-init g c = rows_none c.args.workers c.args.seats.now c.requires.many c.requires.tied

pub loop-me-preserved : goal.loop-me-preserved
loop-me-preserved g c =
    let old = slice_index_or c.row_of.new.seats c.loop-me.me c.index-seats-me.result in
    let s : Seat g.row.X.Denot = record { me = old.me; own = old.own; links = c.in_ok-links.links; kept = old.kept } in
    rows_more c.args.workers c.loop-me.me c.args.seats.now c.loop-me.seats c.row_of.new.seats c.in_ok-links.links.items s c.index-seats-me.result c.loop-me-test.true c.loop-me.invariant c.in_ok-links.ensures refl refl refl
