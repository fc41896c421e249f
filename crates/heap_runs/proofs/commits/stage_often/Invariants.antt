use Rattle.std.proofs.Common.{◌≡◌, ◌+◌, ◌≤◌, length, false}
use Rattle.entity_heap.specs.Writers.{IsWriterOf, meaning_in}
use Rattle.heap_runs.proofs.commits.stage_often.Given as goal

abbrev pub invariant-loop-i : goal.invariant-loop-i
invariant-loop-i g l = record {
  from : IsWriterOf l.heap l.writer;
  closed : (meaning_in l.writer).is_open ≡ false;
  version : (meaning_in l.writer).version ≤ (meaning_in l.fn.writer).version + l._i;
  many : length (meaning_in l.writer).committed ≡ length (meaning_in l.fn.writer).committed;
}
