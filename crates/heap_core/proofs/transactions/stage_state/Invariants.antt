use Rattle.std.proofs.Common.{◌≡◌, ◌++◌, map, take, drop, replicate, true}
use Rattle.std.specs.Arc.{arc_value}
use Rattle.heap_core.specs.Transactions.{IsStaging}
use Rattle.heap_core.proofs.transactions.stage_state.Given as goal

-- as far as the loop has come, the latest payloads are the new ones, and staged
abbrev pub invariant-loop-e : goal.invariant-loop-e
invariant-loop-e g l = record {
  latest : (g.W.HeapWriter.meaning l.writer).latest ≡ take l.e (map arc_value l.state) ++ drop l.e (g.W.HeapWriter.meaning l.fn.writer).latest;
  staged : (g.W.HeapWriter.meaning l.writer).staged ≡ replicate l.e true ++ drop l.e (g.W.HeapWriter.meaning l.fn.writer).staged;
  staging : IsStaging (g.W.HeapWriter.meaning l.fn.writer) (g.W.HeapWriter.meaning l.writer);
  told : g.W.HeapWriter.told l.writer ≡ g.W.HeapWriter.told l.fn.writer;
  part : g.W.HeapWriter.part l.writer ≡ g.W.HeapWriter.part l.fn.writer;
}
