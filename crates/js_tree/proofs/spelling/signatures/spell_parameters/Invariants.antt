use Rattle.std.proofs.Common.{◌≡◌, drop}
use Rattle.js_token.specs.declared.token.TokenKind.TheVariants.{Punct}
use Rattle.js_token.specs.declared.punct.Punct.TheVariants.{Comma}
use Rattle.js_tree.proofs.Lists.{listed}
use Rattle.js_tree.proofs.CodeLists.{parameter}
use Rattle.js_tree.proofs.spelling.signatures.spell_parameters.Given as goal

abbrev pub invariant-loop-i : goal.invariant-loop-i
invariant-loop-i l = l.tail ≡ listed (Punct Comma) parameter (drop l.i l.parameters) l.fn.tail
