use Rattle.std.proofs.Common.{◌≡◌, true, length, take}
use Rattle.heap_core.specs.Transactions.{IsStaging, all_staged}
use Rattle.recheck_staging.specs.Staging.{vacated}
use Rattle.recheck_staging.proofs.staging.vacate_all.Given as goal

-- nothing is staged at the rows so far
abbrev pub invariant-loop-i : goal.invariant-loop-i
invariant-loop-i g l =
    let meaning = g.W.HeapWriter.meaning in
    record {
      staged : meaning l.writer ≡ all_staged (vacated (take l.i l.rows)) (meaning l.fn.writer);
      staging : IsStaging (meaning l.fn.writer) (meaning l.writer);
      is_open : (meaning l.writer).is_open ≡ true;
      size : length (meaning l.writer).committed ≡ length (meaning l.fn.writer).committed;
      told : g.W.HeapWriter.told l.writer ≡ g.W.HeapWriter.told l.fn.writer;
      part : g.W.HeapWriter.part l.writer ≡ g.W.HeapWriter.part l.fn.writer;
    }
