use Rattle.std.proofs.Common.{◌≡◌, ◌+◌}
use Rattle.entity_heap.specs.Lanes.{IsLaneOf, visit_in}
use Rattle.heap_runs.proofs.readers.pin_often.Given as goal

abbrev pub invariant-loop-i : goal.invariant-loop-i
invariant-loop-i l = record {
  from : IsLaneOf l.heap l.lane;
  pins : (visit_in l.lane).pins ≡ (visit_in l.fn.lane).pins + l._i;
}
