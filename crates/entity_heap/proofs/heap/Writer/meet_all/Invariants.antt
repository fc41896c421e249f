use Rattle.std.proofs.Common.{◌≡◌, ℕ, ◌<◌, ◌≤◌, length, get_or, slice_get}
use Rattle.entity_heap.specs.Writers.{plan_in, meaning_in}
use Rattle.entity_heap.specs.Lanes.{AreLanesOf}
use Rattle.entity_heap.proofs.Meets.{AreMetTo}
use Rattle.entity_heap.proofs.heap.Writer.meet_all.Given as goal

abbrev pub invariant-loop-k : goal.invariant-loop-k
invariant-loop-k g l = record {
  from : l.self.place.table_id ≡ l.fn.self.place.table_id;
  meaning : meaning_in l.self ≡ meaning_in l.fn.self;
  made : (plan_in l.self).made ≡ (plan_in l.fn.self).made;
  version : (plan_in l.self).version ≡ (plan_in l.fn.self).version;
  history : (plan_in l.self).history ≡ (plan_in l.fn.self).history;
  lanes : AreLanesOf l.heap l.lanes;
  long : length l.lanes ≡ length l.fn.lanes;
  notes : (n : ℕ) → n < l.k → (plan_in l.fn.self).version ≤ get_or (plan_in l.self).met n 0;
  met : AreMetTo l.k (plan_in l.fn.self) l.fn.lanes l.lanes;
  rest : (n : ℕ) → l.k ≤ n → slice_get l.lanes n ≡ slice_get l.fn.lanes n;
}
