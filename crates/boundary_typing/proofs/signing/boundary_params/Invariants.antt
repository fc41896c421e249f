use Rattle.std.proofs.Common.{◌≡◌, Some, take}
use Rattle.local_signatures.specs.Boundary.{boundary_params}
use Rattle.code_tree.specs.Flat.{parameters_view}
use Rattle.boundary_typing.proofs.signing.boundary_params.Given as goal

-- those so far are told
abbrev pub invariant-loop-i : goal.invariant-loop-i
invariant-loop-i g l = boundary_params (g.N.Names.stands_for l.names) (parameters_view (take l.i l.parameters)) ≡ Some l.all
