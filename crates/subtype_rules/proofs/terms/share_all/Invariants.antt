use Rattle.std.proofs.Common.{◌≡◌, take}
use Rattle.subtype_rules.proofs.terms.share_all.Given as goal

abbrev pub invariant-loop-i : goal.invariant-loop-i
invariant-loop-i l = l.out ≡ take l.i l.all
