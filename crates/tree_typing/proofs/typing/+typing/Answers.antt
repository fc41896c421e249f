use Rattle.tree_typing.proofs.TypeLists.{members_taken, elements_taken, params_taken, props_taken}
use Rattle.tree_typing.proofs.typing.+typing.Goals as goal

pub element_types-returns : goal.element_types-returns
element_types-returns g t c = elements_taken (g.N.Names.stands_for c.args.names.now) c.loop-i.i c.args.elements.now c.loop-i.types c.loop-i-test.false c.loop-i.invariant

pub member_types-returns : goal.member_types-returns
member_types-returns g t c = members_taken (g.N.Names.stands_for c.args.names.now) c.loop-i.i c.args.members.now c.loop-i.types c.loop-i-test.false c.loop-i.invariant

pub param_types-returns : goal.param_types-returns
param_types-returns g t c = params_taken (g.N.Names.stands_for c.args.names.now) c.loop-i.i c.args.params.now c.loop-i.types c.loop-i-test.false c.loop-i.invariant

pub prop_types-returns : goal.prop_types-returns
prop_types-returns g t c = props_taken (g.N.Names.stands_for c.args.names.now) c.loop-i.i c.args.props.now c.loop-i.types c.loop-i-test.false c.loop-i.invariant
