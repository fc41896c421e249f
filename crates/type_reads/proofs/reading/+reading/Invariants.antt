use Rattle.std.proofs.Common.{◌≡◌, take}
use Rattle.check_world.specs.View.{world_view, notes_view}
use Rattle.type_tree.specs.View.{pres_view, types_view, params_view, props_view}
use Rattle.typing.specs.TypeFaults.{members_read, types_read, params_read, props_read, keys_of_props}
use Rattle.type_reads.specs.Keys.{HasAll}
use Rattle.type_reads.proofs.reading.+reading.Given as goal

abbrev pub invariant-read_members-loop-i : goal.invariant-read_members-loop-i
invariant-read_members-loop-i l = notes_view l.notes ≡ members_read (world_view l.world) (pres_view (take l.i l.members)) (notes_view l.initial.notes)

abbrev pub invariant-read_params-loop-i : goal.invariant-read_params-loop-i
invariant-read_params-loop-i l = notes_view l.notes ≡ params_read (world_view l.world) (params_view (take l.i l.params)) (notes_view l.initial.notes)

abbrev pub invariant-read_types-loop-i : goal.invariant-read_types-loop-i
invariant-read_types-loop-i l = notes_view l.notes ≡ types_read (world_view l.world) (types_view (take l.i l.types)) (notes_view l.initial.notes)

abbrev pub invariant-read_props-loop-i : goal.invariant-read_props-loop-i
invariant-read_props-loop-i l = record {
  read : notes_view l.notes ≡ props_read (world_view l.world) (props_view (take l.i l.props)) (notes_view l.initial.notes);
  keys : HasAll l.before (keys_of_props (props_view (take l.i l.props)));
}
