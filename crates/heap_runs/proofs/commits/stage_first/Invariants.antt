use Rattle.std.proofs.Common.{◌≡◌, length, true}
use Rattle.entity_heap.specs.Writers.{IsWriterOf, meaning_in}
use Rattle.heap_runs.proofs.commits.stage_first.Given as goal

abbrev pub invariant-loop-e : goal.invariant-loop-e
invariant-loop-e l = record {
  from : IsWriterOf l.heap l.writer;
  opened : (meaning_in l.writer).is_open ≡ true;
  version : (meaning_in l.writer).version ≡ (meaning_in l.fn.writer).version;
  many : length (meaning_in l.writer).committed ≡ length (meaning_in l.fn.writer).committed;
}
