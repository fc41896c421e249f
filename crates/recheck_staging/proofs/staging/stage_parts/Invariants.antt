use Rattle.std.proofs.Common.{◌≡◌, true, length, take}
use Rattle.heap_core.specs.Transactions.{IsStaging, all_staged}
use Rattle.recheck_staging.specs.Staging.{flagged}
use Rattle.recheck_staging.proofs.staging.stage_parts.Given as goal

-- the modules so far are staged
abbrev pub invariant-loop-i : goal.invariant-loop-i
invariant-loop-i g l =
    let meaning = g.W.HeapWriter.meaning in
    record {
      staged : meaning l.writer ≡ all_staged (flagged g.P.Part.place g.P.Part.put (take l.i l.modules) (take l.i l.parts) (take l.i l.flags)) (meaning l.fn.writer);
      staging : IsStaging (meaning l.fn.writer) (meaning l.writer);
      is_open : (meaning l.writer).is_open ≡ true;
      size : length (meaning l.writer).committed ≡ length (meaning l.fn.writer).committed;
      told : g.W.HeapWriter.told l.writer ≡ g.W.HeapWriter.told l.fn.writer;
      part : g.W.HeapWriter.part l.writer ≡ g.W.HeapWriter.part l.fn.writer;
    }
