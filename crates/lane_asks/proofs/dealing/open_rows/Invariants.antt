use Rattle.std.proofs.Common.{◌≡◌, length}
use Rattle.lane_asks.proofs.Dealt.{AreOpened}
use Rattle.lane_asks.proofs.dealing.open_rows.Given as goal

abbrev pub invariant-loop-place : goal.invariant-loop-place
invariant-loop-place g l = record {
  count : length l.rows.items ≡ l.place;
  opened : AreOpened l.many l.rows.items;
}
