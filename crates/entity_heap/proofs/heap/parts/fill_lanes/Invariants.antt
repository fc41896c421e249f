use Rattle.std.proofs.Common.{◌≡◌, ◌+◌, [], length}
use Rattle.entity_heap.specs.Plans.{plan_of}
use Rattle.entity_heap.specs.Starts.{fill_of, AreShares}
use Rattle.entity_heap.specs.declared.board.Role.TheVariants.{Writes}
use Rattle.entity_heap.proofs.heap.parts.fill_lanes.Given as goal

abbrev pub invariant-loop-lane : goal.invariant-loop-lane
invariant-loop-lane g l = record {
  table : l.place.table_id ≡ l.fn.place.table_id;
  many : length l.shares.items + l.lane ≡ l.lanes;
  shares : AreShares (l.value.value) l.shares.items;
  me : l.place.me ≡ (Writes (record (plan_of l.fn.place.me.0) { fill = fill_of l.lane l.e (l.value.value) }), []);
}
