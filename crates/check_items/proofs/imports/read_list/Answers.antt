use Rattle.std.proofs.Common.{arith, ap, ◌∙◌}
use Rattle.check_values.specs.Rows.{Bytes}
use Rattle.check_world.specs.View.{world_view, notes_view}
use Rattle.module_errors.specs.Items.{imported_read}
use Rattle.check_items.proofs.NotesInOrder.{imported_none, imported_next, imported_all}
use Rattle.check_items.proofs.imports.read_list.Goals as goal

pub loop-i-init : goal.loop-i-init
loop-i-init c = λ p says. imported_none (world_view c.args.world.now) p c.args.from.0 c.args.from.1.now (notes_view c.args.notes.now)

pub loop-i-preserved : goal.loop-i-preserved
loop-i-preserved c = λ p says.
    imported_next (world_view c.args.world.now) p c.args.from.0 c.args.from.1.now c.as_slice-names.result.now c.loop-i.i c.index-names-i.result (notes_view c.args.notes.now) (notes_view c.loop-i.notes) (notes_view c.read_name.new.notes)
    (omega arith) c.index-names-i.is
    (c.in_ok-read_name.ensures p says
    ∙ ap (λ (name : Bytes). imported_read (world_view c.args.world.now) p c.args.from.0 c.args.from.1.now c.index-names-i.result.first name (notes_view c.loop-i.notes)) c.outer_name.ensures)
    (c.loop-i.invariant p says)

pub returns : goal.returns
returns c = λ p says.
    imported_all (world_view c.args.world.now) p c.args.from.0 c.args.from.1.now c.as_slice-names.result.now c.args.list.now.names c.loop-i.i (notes_view c.args.notes.now) (notes_view c.loop-i.notes) (omega arith) c.as_slice-names.ensures
    (c.loop-i.invariant p says)
