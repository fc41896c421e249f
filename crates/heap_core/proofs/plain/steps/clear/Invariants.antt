use Rattle.std.proofs.Common.{◌≡◌, ℕ, length, drop, slice_get, Some, true}
use Rattle.heap_core.specs.Meaning.{names}
use Rattle.heap_core.specs.Plain.{staged_of}
use Rattle.heap_core.proofs.plain.steps.clear.Given as goal

abbrev pub invariant-loop-e : goal.invariant-loop-e
invariant-loop-e g l = record {
  many : length l.pending.items ≡ length l.fn.pending.items;
  rest : (k : ℕ) → slice_get (staged_of l.pending.items) k ≡ Some true → names (drop l.e-index l.e-items) k ≡ true;
}
