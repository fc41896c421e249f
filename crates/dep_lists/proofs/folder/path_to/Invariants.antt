use Rattle.std.proofs.Common.{◌≡◌, map, take}
use Rattle.std.specs.List.{join_with_byte}
use Rattle.flow_values.specs.Path.{SLASH}
use Rattle.dep_lists.proofs.folder.path_to.Given as goal

abbrev pub invariant-loop-i : goal.invariant-loop-i
invariant-loop-i l = l.path.items ≡ join_with_byte SLASH (map (λ p. p.now) (take l.i l.parts))
