use Rattle.std.proofs.Common.{◌≡◌, drop}
use Rattle.js_token.specs.declared.token.TokenKind.TheVariants.{Punct}
use Rattle.js_token.specs.declared.punct.Punct.TheVariants.{Comma, Bar}
use Rattle.js_tree.proofs.Lists.{each, listed}
use Rattle.js_tree.proofs.TypeLists.{member, param, element, property, row}
use Rattle.js_tree.proofs.spelling.types.+spell_types.Given as goal

abbrev pub invariant-spell_members-loop-i : goal.invariant-spell_members-loop-i
invariant-spell_members-loop-i l = l.tail ≡ listed (Punct Bar) member (drop l.i l.members) l.fn.tail

abbrev pub invariant-spell_params-loop-i : goal.invariant-spell_params-loop-i
invariant-spell_params-loop-i l = l.tail ≡ listed (Punct Comma) param (drop l.i l.params) l.fn.tail

abbrev pub invariant-spell_all-loop-i : goal.invariant-spell_all-loop-i
invariant-spell_all-loop-i l = l.tail ≡ listed (Punct Comma) element (drop l.i l.types) l.fn.tail

abbrev pub invariant-spell_props-loop-i : goal.invariant-spell_props-loop-i
invariant-spell_props-loop-i l = l.tail ≡ listed (Punct Comma) property (drop l.i l.props) l.fn.tail

abbrev pub invariant-spell_rows-loop-i : goal.invariant-spell_rows-loop-i
invariant-spell_rows-loop-i l = l.tail ≡ each row (drop l.i l.props) l.fn.tail
