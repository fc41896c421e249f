use Rattle.std.proofs.Common.{◌≡◌, [], List, length, slice_index_or, refl, ap, ◌∙◌, arith}
use Rattle.job_seats.specs.declared.place.Seat.{Seat}
use Rattle.job_crew.proofs.Returned.{rows_none, out_links, out_parts, rows_more}
use Rattle.job_crew.proofs.gathering.gather_links.Goals as goal

pub loop-w-init : goal.loop-w-init
loop-w-init g c = rows_none (length c.args.seats.now) c.args.seats.now c.requires

pub gather_row-requires-clause-links : goal.gather_row-requires-clause-links
gather_row-requires-clause-links g c =
    out_links (length c.args.seats.now) c.loop-w.w c.args.seats.now c.loop-w.seats _ c.index-seats-w.result refl (omega arith) c.loop-w.invariant refl refl (ap (λ v. v.items) c.replace-links.ensures.after ∙ c.new.ensures.items)
    c.replace-links.result.items (ap (λ v. v.items) c.replace-links.ensures.value)

pub gather_row-requires-clause-parts : goal.gather_row-requires-clause-parts
gather_row-requires-clause-parts g c =
    out_parts (length c.args.seats.now) c.loop-w.w c.args.seats.now c.loop-w.seats _ c.index-seats-w.result refl (omega arith) c.loop-w.invariant refl refl (ap (λ v. v.items) c.replace-links.ensures.after ∙ c.new.ensures.items)
    c.replace-links.result.items (ap (λ v. v.items) c.replace-links.ensures.value)

pub loop-w-preserved : goal.loop-w-preserved
loop-w-preserved g c =
    let old = slice_index_or c.loop-w.seats c.loop-w.w c.index-seats-w.result in
    let s : Seat g.row.X.Denot = record { me = old.me; own = old.own; links = c.replace-links.new.dest; kept = old.kept } in
    rows_more (length c.args.seats.now) c.loop-w.w c.args.seats.now c.loop-w.seats s c.index-seats-w.result refl (omega arith) c.loop-w.invariant refl refl (ap (λ v. v.items) c.replace-links.ensures.after ∙ c.new.ensures.items)
    c.replace-links.result.items (ap (λ v. v.items) c.replace-links.ensures.value) c.gather_row.new.seats c.gather_row.ensures.same c.gather_row.ensures.parts c.gather_row.ensures.taken
