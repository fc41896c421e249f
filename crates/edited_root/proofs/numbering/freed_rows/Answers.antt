use Rattle.std.proofs.Common.{◌+◌, ◌*◌, ◌<◌, true, false, List, [], ◌∷◌, ◌++◌, ap, ◌∙◌, refl, sym, subst, arith, rules}
use Rattle.std.specs.List.{AllByRecursion}
use Rattle.check_values.specs.declared.root.RootRow.{RootRow}
use Rattle.payloads.specs.Entities.{errors_entity}
use Rattle.edited_root.specs.Numbering.{AreMarks}
use Rattle.edited_root.proofs.Marks.{rows_of, mark_is, freed_skip, freed_more, freed_all, row_below}
use Rattle.edited_root.proofs.numbering.freed_rows.Goals as goal

pub loop-i-preserved-then-index : goal.loop-i-preserved-then-index
loop-i-preserved-then-index c =
    let are = subst (λ (ms : List RootRow). AreMarks (rows_of ms) c.args.capacity c.in_ok-marks.marks.items) c.as_slice.ensures c.in_ok-marks.ensures in
    let room = subst (λ (ms : List RootRow). AllByRecursion (λ m. errors_entity m.row < 4 * c.args.capacity + 1) ms) (sym c.as_slice-modules.ensures) c.requires.room in
    let low = row_below (4 * c.args.capacity + 1) c.args.capacity c.as_slice-modules.result.now c.loop-i.i c.index-modules-i.result room refl (omega arith) c.index-modules-i.is in
    freed_skip c.args.new.now c.as_slice-modules.result.now c.loop-i.i c.args.capacity c.index-modules-i.result c.in_ok-marks.marks.items c.loop-i.freed.items _ (omega arith) c.index-modules-i.is are low c.loop-i.invariant (mark_is c.in_ok-marks.marks.items c.index-modules-i.result.row _ c.index.result.now true (let size = are.size in omega arith) (sym (ap (λ (m : RootRow). m.row) c.index-modules-i.is)) (search rules) (search rules)) refl

pub loop-i-preserved : goal.loop-i-preserved
loop-i-preserved c =
    let are = subst (λ (ms : List RootRow). AreMarks (rows_of ms) c.args.capacity c.in_ok-marks.marks.items) c.as_slice.ensures c.in_ok-marks.ensures in
    let room = subst (λ (ms : List RootRow). AllByRecursion (λ m. errors_entity m.row < 4 * c.args.capacity + 1) ms) (sym c.as_slice-modules.ensures) c.requires.room in
    let low = row_below (4 * c.args.capacity + 1) c.args.capacity c.as_slice-modules.result.now c.loop-i.i c.index-modules-i.result room refl (omega arith) c.index-modules-i.is in
    freed_more c.args.new.now c.as_slice-modules.result.now c.loop-i.i c.args.capacity c.index-modules-i.result c.in_ok-marks.marks.items c.loop-i.freed.items _ (omega arith) c.index-modules-i.is are low c.loop-i.invariant (mark_is c.in_ok-marks.marks.items c.index-modules-i.result.row _ c.index.result.now false (let size = are.size in omega arith) (sym (ap (λ (m : RootRow). m.row) c.index-modules-i.is)) (search rules) (search rules))
    (c.in_ok-push.ensures.items ∙ ap (λ (m : RootRow). c.loop-i.freed.items ++ m.row ∷ []) (sym c.index-modules-i.is))

pub returns : goal.returns
returns c = freed_all c.args.old.now c.args.new.now c.as_slice-modules.result.now c.loop-i.i c.loop-i.freed.items c.as_slice-modules.ensures (omega arith) c.loop-i.invariant
