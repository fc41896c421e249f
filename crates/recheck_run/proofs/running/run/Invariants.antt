use Rattle.std.proofs.Common.{◌≡◌, ◌+◌, ◌-◌, ◌^◌, ◌≤◌, min, true, map, length}
use Rattle.heap_core.specs.Transactions.{IsStaging}
use Rattle.recheck_run.specs.Extent.{Extent}
use Rattle.recheck_run.specs.Steps.{AffectsIn, Stands, HoldsNext}
use Rattle.recheck_reach.specs.work_totals.specs.Totals.{total}
use Rattle.recheck_run.proofs.running.run.Given as goal

-- before a poll: so much is done, and so many polls said no
abbrev pub invariant-polls : goal.invariant-polls
invariant-polls g l =
    let meaning = g.W.HeapWriter.meaning in
    let seen = g.S.Stop.seen in
    record {
      holds : HoldsNext l.base (meaning l.fn.writer) (meaning l.writer) l.next;
      stands : (n : Extent) → AffectsIn l.base n → Stands n l.next l.poll (total (map g.A.Analyst.work l.fn.analysts)) (total (map g.A.Analyst.work l.analysts));
      some : 1 ≤ l.poll;
      asked : (seen l.stop).questions ≡ min ((seen l.fn.stop).questions + (l.poll - 1)) (2 ^ 64 - 1);
      quiet : (seen l.stop).yes_answers ≡ (seen l.fn.stop).yes_answers;
      told_stop : (seen l.stop).told ≡ (seen l.fn.stop).told;
      staging : IsStaging (meaning l.fn.writer) (meaning l.writer);
      is_open : (meaning l.writer).is_open ≡ true;
      told : g.W.HeapWriter.told l.writer ≡ g.W.HeapWriter.told l.fn.writer;
      part : g.W.HeapWriter.part l.writer ≡ g.W.HeapWriter.part l.fn.writer;
      many : length l.analysts ≡ length l.fn.analysts;
    }

abbrev pub decreases-polls : goal.decreases-polls
decreases-polls g l = 2 ^ 32 - l.poll
