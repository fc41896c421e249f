use Rattle.std.proofs.Common.{◌≡◌, ℕ, length, drop, slice_get, Some, true}
use Rattle.heap_core.specs.Meaning.{stamped, names}
use Rattle.heap_core.specs.Plain.{overlaid, staged_of}
use Rattle.heap_core.proofs.plain.steps.settle.Given as goal

abbrev pub invariant-loop-e : goal.invariant-loop-e
invariant-loop-e g l = record {
  many : length l.pending.items ≡ length l.fn.committed.items;
  many_committed : length l.committed.items ≡ length l.fn.committed.items;
  many_versions : length l.versions.items ≡ length l.fn.committed.items;
  latest : overlaid l.committed.items l.pending.items ≡ overlaid l.fn.committed.items l.fn.pending.items;
  stamps : stamped l.version (staged_of l.pending.items) l.versions.items ≡ stamped l.version (staged_of l.fn.pending.items) l.fn.versions.items;
  rest : (k : ℕ) → slice_get (staged_of l.pending.items) k ≡ Some true → names (drop l.e-index l.e-items) k ≡ true;
}
