use Rattle.std.proofs.Common.{◌+◌, ◌*◌, max, length}
use Rattle.job_crew.proofs.together.+crew.Given as goal

abbrev pub decreases-work_all : goal.decreases-work_all
decreases-work_all g l = 3 * length l.analysts.now

abbrev pub decreases-work_both : goal.decreases-work_both
decreases-work_both g l = 3 * max (length l.left.now) (length l.right.now) + 2

abbrev pub decreases-work_both-join_large+arg2 : goal.decreases-work_both-join_large+arg2
decreases-work_both-join_large+arg2 g l = 3 * length l.left.now + 1

abbrev pub decreases-work_both-join_large+arg3 : goal.decreases-work_both-join_large+arg3
decreases-work_both-join_large+arg3 g l = 3 * length l.right.now + 1
