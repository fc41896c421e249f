use Rattle.std.proofs.Common.{◌≡◌, [], ◌∷◌, take, map}
use Rattle.subtype_rules.proofs.links.above_each.Given as goal

abbrev pub invariant-loop-j : goal.invariant-loop-j
invariant-loop-j l = l.all ≡ map (λ k. (l.i, k) ∷ []) (take l.j l.ls)
