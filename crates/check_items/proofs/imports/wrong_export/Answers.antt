use Rattle.check_world.specs.View.{world_view}
use Rattle.check_items.proofs.NotesInOrder.{wrong_told}
use Rattle.check_items.proofs.imports.wrong_export.Goals as goal

pub returns : goal.returns
returns c = λ top types.
    wrong_told (world_view c.args.world.now) top c.args.is_type c.args.name.now c.name_fault-fault.result c.wrong_by.result c.wrong_by.ensures c.name_fault-fault.ensures types
