use Rattle.std.proofs.Common.{◌≡◌, [], take}
use Rattle.check_world.specs.View.{world_view, notes_view}
use Rattle.module_errors.specs.TopNames.{exported_twice}
use Rattle.check_items.specs.Exported.{IsBefore}
use Rattle.check_items.proofs.SecondExports.{names_with}
use Rattle.check_items.proofs.exports.note_second_exports.Given as goal

abbrev pub invariant-loop-i : goal.invariant-loop-i
invariant-loop-i l = record {
  before : IsBefore (names_with (take l.i l.all) []) l.before;
  notes : notes_view l.notes ≡ exported_twice (world_view l.world) [] (take l.i l.all) (notes_view l.fn.notes);
}
