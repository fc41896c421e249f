use Rattle.std.proofs.Common.{◌≡◌, map, take}
use Rattle.tree_types.specs.TreeTypes.{type_of, type_of_member, param_of, prop_of}
use Rattle.type_tree.specs.View.{type_view, pre_view, param_view, prop_view}
use Rattle.tree_typing.proofs.typing.+typing.Given as goal

abbrev pub invariant-member_types-loop-i : goal.invariant-member_types-loop-i
invariant-member_types-loop-i g l = l.types ≡ map (λ p. type_of_member (g.N.Names.stands_for l.names) (pre_view p)) (take l.i l.members)

abbrev pub invariant-element_types-loop-i : goal.invariant-element_types-loop-i
invariant-element_types-loop-i g l = l.types ≡ map (λ t. type_of (g.N.Names.stands_for l.names) (type_view t)) (take l.i l.elements)

abbrev pub invariant-param_types-loop-i : goal.invariant-param_types-loop-i
invariant-param_types-loop-i g l = l.types ≡ map (λ p. param_of (g.N.Names.stands_for l.names) (param_view p)) (take l.i l.params)

abbrev pub invariant-prop_types-loop-i : goal.invariant-prop_types-loop-i
invariant-prop_types-loop-i g l = l.types ≡ map (λ p. prop_of (g.N.Names.stands_for l.names) (prop_view p)) (take l.i l.props)
