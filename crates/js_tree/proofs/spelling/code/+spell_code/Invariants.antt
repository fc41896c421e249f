use Rattle.std.proofs.Common.{◌≡◌, drop, codes}
use Rattle.js_token.specs.declared.token.TokenKind.TheVariants.{Name, Punct}
use Rattle.js_token.specs.declared.punct.Punct.TheVariants.{Comma}
use Rattle.js_tree.proofs.Lists.{each, listed}
use Rattle.js_tree.proofs.CodeLists.{element, link, operand, field, arm, statement, branch}
use Rattle.js_tree.proofs.spelling.code.+spell_code.Given as goal

abbrev pub invariant-spell_exprs-loop-i : goal.invariant-spell_exprs-loop-i
invariant-spell_exprs-loop-i l = l.tail ≡ listed (Punct Comma) element (drop l.i l.exprs) l.fn.tail

abbrev pub invariant-spell_links-loop-i : goal.invariant-spell_links-loop-i
invariant-spell_links-loop-i l = l.tail ≡ each link (drop l.i l.links) l.fn.tail

abbrev pub invariant-spell_operands-loop-i : goal.invariant-spell_operands-loop-i
invariant-spell_operands-loop-i l = l.tail ≡ each operand (drop l.i l.operands) l.fn.tail

abbrev pub invariant-spell_fields-loop-i : goal.invariant-spell_fields-loop-i
invariant-spell_fields-loop-i l = l.tail ≡ listed (Punct Comma) field (drop l.i l.fields) l.fn.tail

abbrev pub invariant-spell_arms-loop-i : goal.invariant-spell_arms-loop-i
invariant-spell_arms-loop-i l = l.tail ≡ each arm (drop l.i l.arms) l.fn.tail

abbrev pub invariant-spell_statements-loop-i : goal.invariant-spell_statements-loop-i
invariant-spell_statements-loop-i l = l.tail ≡ each statement (drop l.i l.statements) l.fn.tail

abbrev pub invariant-spell_branches-loop-i : goal.invariant-spell_branches-loop-i
invariant-spell_branches-loop-i l = l.tail ≡ listed (Name (codes "else")) branch (drop l.i l.branches) l.fn.tail
