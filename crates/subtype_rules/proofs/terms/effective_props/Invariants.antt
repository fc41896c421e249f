use Rattle.std.proofs.Common.{◌≡◌, take, map}
use Rattle.type_terms.specs.Optional.{eff}
use Rattle.subtype_rules.proofs.terms.effective_props.Given as goal

abbrev pub invariant-loop-i : goal.invariant-loop-i
invariant-loop-i l = l.out ≡ map (λ p. eff p.optional p.ty) (take l.i l.props)
