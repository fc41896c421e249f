use Rattle.std.proofs.Common.{◌≡◌, ℕ, ◌<◌, false, [], length, get_or, slice_get}
use Rattle.entity_heap.specs.Plans.{plan_of}
use Rattle.entity_heap.specs.declared.board.Role.TheVariants.{Writes}
use Rattle.entity_heap.proofs.Listed.{AreAhead}
use Rattle.entity_heap.proofs.heap.parts.roll_all.Given as goal

abbrev pub invariant-loop-e : goal.invariant-loop-e
invariant-loop-e g l = record {
  table : l.place.table_id ≡ l.fn.place.table_id;
  me : l.place.me ≡ (Writes (record (plan_of l.fn.place.me.0) { next = (plan_of l.place.me.0).next; staged = l.staged.items }), []);
  many : length l.staged.items ≡ l.entities;
  long : length (plan_of l.place.me.0).next ≡ l.entities;
  unstaged : (k : ℕ) → get_or l.staged.items k false ≡ false → slice_get (plan_of l.place.me.0).next k ≡ slice_get (plan_of l.fn.place.me.0).committed k;
  ahead : AreAhead l.e-index l.e-items l.staged.items;
}
