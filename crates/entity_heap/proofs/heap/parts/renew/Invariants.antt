use Rattle.std.proofs.Common.{◌≡◌, length}
use Rattle.entity_heap.specs.Plans.{new_words}
use Rattle.entity_heap.proofs.Listed.{AreAhead}
use Rattle.entity_heap.proofs.heap.parts.renew.Given as goal

abbrev pub invariant-loop-e : goal.invariant-loop-e
invariant-loop-e l = record {
  many : length l.staged.items ≡ length l.fn.staged.items;
  long : length l.words.items ≡ length l.fn.words.items;
  words : new_words l.version l.staged.items l.words.items ≡ new_words l.version l.fn.staged.items l.fn.words.items;
  ahead : AreAhead l.e-index l.e-items l.staged.items;
}
