use Rattle.std.proofs.Common.{◌≡◌, drop}
use Rattle.js_token.specs.declared.token.TokenKind.TheVariants.{Punct}
use Rattle.js_token.specs.declared.punct.Punct.TheVariants.{Comma}
use Rattle.js_tree.proofs.Lists.{listed}
use Rattle.js_tree.proofs.ItemLists.{export_name}
use Rattle.js_tree.proofs.spelling.items.spell_all_exported.Given as goal

abbrev pub invariant-loop-i : goal.invariant-loop-i
invariant-loop-i l = l.tail ≡ listed (Punct Comma) export_name (drop l.i l.names) l.fn.tail
