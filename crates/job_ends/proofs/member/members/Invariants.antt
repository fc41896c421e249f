use Rattle.std.proofs.Common.{◌≡◌, map, take}
use Rattle.job_ends.proofs.member.members.Given as goal

abbrev pub invariant-loop-i : goal.invariant-loop-i
invariant-loop-i l = map (λ own. own.member.now) l.members.items ≡ take l.i l.all
