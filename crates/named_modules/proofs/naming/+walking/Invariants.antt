use Rattle.std.proofs.Common.{◌≡◌, ◌++◌, take}
use Rattle.std.specs.List.{flat_map}
use Rattle.type_values.specs.declared.types.FlowProp.{out-FlowProp}
use Rattle.type_values.specs.declared.types.Param.{out-Param}
use Rattle.merged_signatures.specs.Reach.{paths_in}
use Rattle.named_modules.proofs.naming.+walking.Given as goal

abbrev pub invariant-add_types-loop-i : goal.invariant-add_types-loop-i
invariant-add_types-loop-i l = l.out ≡ l.fn.out ++ (flat_map paths_in (take l.i l.all))

abbrev pub invariant-add_props-loop-i : goal.invariant-add_props-loop-i
invariant-add_props-loop-i l = l.out ≡ l.fn.out ++ (flat_map (λ p. paths_in (out-FlowProp p).ty) (take l.i l.all))

abbrev pub invariant-add_params-loop-i : goal.invariant-add_params-loop-i
invariant-add_params-loop-i l = l.out ≡ l.fn.out ++ (flat_map (λ p. paths_in (out-Param p).ty) (take l.i l.all))
