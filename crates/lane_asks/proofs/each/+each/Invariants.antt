use Rattle.std.proofs.Common.{◌+◌, ◌*◌, max, length}
use Rattle.lane_asks.proofs.each.+each.Given as goal

abbrev pub decreases-do_each : goal.decreases-do_each
decreases-do_each g l = 3 * length l.lanes.now

abbrev pub decreases-do_both : goal.decreases-do_both
decreases-do_both g l = 3 * max (length l.first.now) (length l.second.now) + 2

abbrev pub decreases-do_both-join_large+arg2 : goal.decreases-do_both-join_large+arg2
decreases-do_both-join_large+arg2 g l = 3 * length l.second.now + 1

abbrev pub decreases-do_both-join_large+arg3 : goal.decreases-do_both-join_large+arg3
decreases-do_both-join_large+arg3 g l = 3 * length l.first.now + 1
