use Rattle.std.proofs.Common.{◌≡◌, take, map}
use Rattle.subtype_rules.proofs.terms.prop_types.Given as goal

abbrev pub invariant-loop-i : goal.invariant-loop-i
invariant-loop-i l = l.out ≡ map (λ p. p.ty) (take l.i l.props)
