-- A node ends as many places behind its first token as its spelling has tokens.
use Rattle.std.proofs.Common.{◌≡◌, ◌∙◌, [], length, arith}
use Rattle.js_grammar.specs.Items.{spell_items}
use Rattle.js_grammar.specs.Law.{ExpressionsEndBehindTheirTokens, StatementsEndBehindTheirTokens, ItemsEndBehindTheirTokens, ModulesEndBehindTheirTokens}
use Rattle.js_grammar.proofs.Front.{counted, f_ex_form, f_stmt_form, f_item_form, f_items}

pub expressions : ExpressionsEndBehindTheirTokens
expressions i f t x h = (h.0, h.1 ∙ counted (f_ex_form x) i)

pub statements : StatementsEndBehindTheirTokens
statements c i f t x h = (h.0, h.1 ∙ counted (f_stmt_form x) i)

pub items : ItemsEndBehindTheirTokens
items i f t x h = (h.0, h.1 ∙ counted (f_item_form x) i)

pub modules : ModulesEndBehindTheirTokens
modules f t is h = (h.0, (let e = h.1 ∙ counted (f_items is) 0 in let n : t ≡ length (spell_items is []) = omega arith in n))
