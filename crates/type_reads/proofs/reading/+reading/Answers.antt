use Rattle.std.proofs.Common.{take, arith}
use Rattle.check_world.specs.View.{world_view, notes_view}
use Rattle.typing.specs.TypeFaults.{keys_of_props}
use Rattle.type_tree.specs.View.{props_view}
use Rattle.type_reads.proofs.InOrder.{members_none, members_next, params_none, params_next, types_none, types_next, props_none, props_next, keys_none, keys_next}
use Rattle.type_reads.proofs.reading.+reading.Goals as goal

pub read_members-loop-i-init : goal.read_members-loop-i-init
read_members-loop-i-init t c = members_none (world_view c.args.world.now) c.args.members.now (notes_view c.args.notes.now)

pub read_members-loop-i-preserved : goal.read_members-loop-i-preserved
read_members-loop-i-preserved t c =
    members_next (world_view c.args.world.now) c.args.members.now c.loop-i.i c.index-members-i.result (notes_view c.args.notes.now) (notes_view c.loop-i.notes) (notes_view c.read_member.new.notes)
    (omega arith) c.index-members-i.is c.in_ok-read_member.ensures c.loop-i.invariant

pub read_params-loop-i-init : goal.read_params-loop-i-init
read_params-loop-i-init t c = params_none (world_view c.args.world.now) c.args.params.now (notes_view c.args.notes.now)

pub read_params-loop-i-preserved : goal.read_params-loop-i-preserved
read_params-loop-i-preserved t c =
    params_next (world_view c.args.world.now) c.args.params.now c.loop-i.i c.index-params-i.result (notes_view c.args.notes.now) (notes_view c.loop-i.notes) (notes_view c.read_param.new.notes)
    (omega arith) c.index-params-i.is c.in_ok-read_param.ensures c.loop-i.invariant

pub read_types-loop-i-init : goal.read_types-loop-i-init
read_types-loop-i-init t c = types_none (world_view c.args.world.now) c.args.types.now (notes_view c.args.notes.now)

pub read_types-loop-i-preserved : goal.read_types-loop-i-preserved
read_types-loop-i-preserved t c =
    types_next (world_view c.args.world.now) c.args.types.now c.loop-i.i c.index-types-i.result (notes_view c.args.notes.now) (notes_view c.loop-i.notes) (notes_view c.read_type.new.notes)
    (omega arith) c.index-types-i.is c.in_ok-read_type.ensures c.loop-i.invariant

pub read_props-loop-i-init : goal.read_props-loop-i-init
read_props-loop-i-init t c = record {
  read = props_none (world_view c.args.world.now) c.args.props.now (notes_view c.args.notes.now);
  keys = keys_none c.new-before.result c.args.props.now c.new-before.ensures.empty;
}

pub read_props-loop-i-preserved : goal.read_props-loop-i-preserved
read_props-loop-i-preserved t c = record {
  read =
      props_next (world_view c.args.world.now) c.args.props.now c.loop-i.i c.index-props-i.result (notes_view c.args.notes.now) (notes_view c.loop-i.notes) (notes_view c.read_prop.new.notes)
      (omega arith) c.index-props-i.is (c.in_ok-read_prop.ensures.read (keys_of_props (props_view (take c.loop-i.i c.args.props.now))) c.loop-i.invariant.keys) c.loop-i.invariant.read;
  keys =
      keys_next c.read_prop.new.before c.args.props.now c.loop-i.i c.index-props-i.result (omega arith) c.index-props-i.is
      (c.in_ok-read_prop.ensures.keys (keys_of_props (props_view (take c.loop-i.i c.args.props.now))) c.loop-i.invariant.keys);
}
