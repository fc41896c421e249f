use Rattle.subtype_rules.proofs.Covers.{FirstIn}
use Rattle.subtype_rules.proofs.covering.has_members.Given as goal

abbrev pub invariant-loop-i : goal.invariant-loop-i
invariant-loop-i l = FirstIn l.some l.all l.i
