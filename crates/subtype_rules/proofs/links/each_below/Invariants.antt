use Rattle.std.proofs.Common.{◌≡◌, take, map}
use Rattle.subtype_rules.proofs.links.each_below.Given as goal

abbrev pub invariant-loop-i : goal.invariant-loop-i
invariant-loop-i l = l.way ≡ map (λ k. (k, l.j)) (take l.i l.ks)
