use Rattle.std.proofs.Common.{◌≡◌, ◌++◌, take}
use Rattle.std.specs.List.{flat_map}
use Rattle.local_signatures.specs.LocalSignature.{led_to_by_type}
use Rattle.told_signature.proofs.naming.+naming.Given as goal

abbrev pub invariant-add_all_names-loop-i : goal.invariant-add_all_names-loop-i
invariant-add_all_names-loop-i l = l.names.items ≡ l.fn.names.items ++ flat_map led_to_by_type (take l.i l.all)

abbrev pub invariant-add_prop_names-loop-i : goal.invariant-add_prop_names-loop-i
invariant-add_prop_names-loop-i l = l.names.items ≡ l.fn.names.items ++ flat_map (λ p. led_to_by_type p.ty) (take l.i l.props)

abbrev pub invariant-add_param_names-loop-i : goal.invariant-add_param_names-loop-i
invariant-add_param_names-loop-i l = l.names.items ≡ l.fn.names.items ++ flat_map (λ p. led_to_by_type p.ty) (take l.i l.params)
