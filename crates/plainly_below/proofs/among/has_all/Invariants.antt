use Rattle.plainly_below.proofs.Below.{FirstIn}
use Rattle.plainly_below.proofs.among.has_all.Given as goal

abbrev pub invariant-loop-i : goal.invariant-loop-i
invariant-loop-i l = FirstIn l.some l.all l.i
