use Rattle.std.proofs.Common.{◌≡◌, ◌++◌, take}
use Rattle.typing.specs.Changes.{parameter_names}
use Rattle.code_tree.specs.Flat.{parameters_view}
use Rattle.code_changes.proofs.names.add_parameters.Given as goal

abbrev pub invariant-loop-i : goal.invariant-loop-i
invariant-loop-i l = l.own ≡ l.fn.own ++ parameter_names (parameters_view (take l.i l.parameters))
