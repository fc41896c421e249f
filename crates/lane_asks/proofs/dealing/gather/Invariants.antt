use Rattle.std.proofs.Common.{◌≡◌, length}
use Rattle.lane_asks.proofs.Dealt.{AreTaken}
use Rattle.lane_asks.proofs.dealing.gather.Given as goal

abbrev pub invariant-loop-i : goal.invariant-loop-i
invariant-loop-i g l = record {
  many : length l.all.items ≡ l.i;
  rows : length l.rows.items ≡ length l.fn.rows.items;
  taken : AreTaken l.all.items l.fn.rows.items l.rows.items;
}
