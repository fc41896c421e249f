use Rattle.std.proofs.Common.{arith}
use Rattle.check_world.specs.View.{world_view, notes_view}
use Rattle.check_items.proofs.NotesInOrder.{exported_none, exported_next, exported_all}
use Rattle.check_items.proofs.imports.read_own_exports.Goals as goal

pub loop-i-init : goal.loop-i-init
loop-i-init c = λ top names. exported_none (world_view c.args.world.now) top c.args.is_type (notes_view c.args.notes.now)

pub loop-i-preserved : goal.loop-i-preserved
loop-i-preserved c = λ top names.
    exported_next (world_view c.args.world.now) top c.args.is_type c.as_slice-names.result.now c.loop-i.i c.index-names-i.result (notes_view c.args.notes.now) (notes_view c.loop-i.notes) (notes_view c.read_own_export.new.notes)
    (omega arith) c.index-names-i.is (c.in_ok-read_own_export.ensures top names) (c.loop-i.invariant top names)

pub returns : goal.returns
returns c = λ top names.
    exported_all (world_view c.args.world.now) top c.args.is_type c.as_slice-names.result.now c.args.list.now.names c.loop-i.i (notes_view c.args.notes.now) (notes_view c.loop-i.notes) (omega arith) c.as_slice-names.ensures
    (c.loop-i.invariant top names)
