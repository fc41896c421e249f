use Rattle.std.proofs.Common.{◌≡◌, take}
use Rattle.tree_types.specs.TreeTypes.{array_of}
use Rattle.type_tree.specs.View.{places_view}
use Rattle.tree_typing.proofs.typing.array_of.Given as goal

abbrev pub invariant-loop-i : goal.invariant-loop-i
invariant-loop-i l = l.t ≡ array_of (places_view (take l._i l.pairs)) l.initial.t
