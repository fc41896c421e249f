use Rattle.std.proofs.Common.{◌≡◌, take}
use Rattle.tree_types.specs.TreeTypes.{maybe}
use Rattle.type_tree.specs.View.{places_view}
use Rattle.tree_typing.proofs.typing.maybe.Given as goal

abbrev pub invariant-loop-i : goal.invariant-loop-i
invariant-loop-i l = l.t ≡ maybe (places_view (take l._i l.marks)) l.initial.t
