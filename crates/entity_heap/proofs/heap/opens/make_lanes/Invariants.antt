use Rattle.std.proofs.Common.{◌≡◌, [], length}
use Rattle.entity_heap.specs.Plans.{plan_of}
use Rattle.entity_heap.specs.Lanes.{AreNew}
use Rattle.entity_heap.specs.declared.board.Role.TheVariants.{Writes}
use Rattle.entity_heap.proofs.heap.opens.make_lanes.Given as goal

abbrev pub invariant-loop-number : goal.invariant-loop-number
invariant-loop-number g l = record {
  from : l.place.table_id ≡ l.heap.board.shared.table_id;
  initial : l.place.table_id ≡ l.fn.place.table_id;
  writer : l.place.me ≡ (Writes (record (plan_of l.fn.place.me.0) { made = (plan_of l.place.me.0).made }), []);
  made : (plan_of l.place.me.0).made ≡ l.number;
  long : length l.made.items ≡ l.number;
  lanes : AreNew l.heap (plan_of l.fn.place.me.0).entities l.made.items;
}
