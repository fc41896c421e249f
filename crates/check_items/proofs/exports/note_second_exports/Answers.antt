use Rattle.std.proofs.Common.{take, [], arith, ◌∙◌}
use Rattle.check_world.specs.View.{world_view, notes_view}
use Rattle.js_tree.specs.View.{items_view}
use Rattle.module_errors.specs.TopNames.{exportings_of}
use Rattle.check_items.proofs.SecondExports.{names_with, before_next, notes_next, notes_all}
use Rattle.check_items.proofs.exports.note_second_exports.Goals as goal

pub loop-i-preserved : goal.loop-i-preserved
loop-i-preserved c = record {
  before =
      before_next c.as_slice-all.result.now c.loop-i.i c.index-all-i.result c.note_export.new.before (omega arith) c.index-all-i.is
      (c.in_ok-note_export.ensures.before (names_with (take c.loop-i.i c.as_slice-all.result.now) []) c.loop-i.invariant.before);
  notes =
      notes_next (world_view c.args.world.now) c.as_slice-all.result.now c.loop-i.i c.index-all-i.result (notes_view c.args.notes.now) (notes_view c.loop-i.notes) (notes_view c.note_export.new.notes) (omega arith) c.index-all-i.is
      (c.in_ok-note_export.ensures.notes (names_with (take c.loop-i.i c.as_slice-all.result.now) []) c.loop-i.invariant.before) c.loop-i.invariant.notes;
}

pub returns : goal.returns
returns c =
    notes_all (world_view c.args.world.now) c.as_slice-all.result.now (exportings_of (items_view c.args.items.now)) c.loop-i.i (notes_view c.args.notes.now) (notes_view c.loop-i.notes) (omega arith)
    (c.as_slice-all.ensures.value ∙ c.in_ok-all.ensures) c.loop-i.invariant.notes
