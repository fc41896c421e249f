-- Reading an expression, or a module, token by token. All that fits is read as itself.
use Rattle.std.specs.Prelude.{ℕ, suc, [], ◌∷◌}
use Rattle.js_token.specs.declared.token.TokenKind.{TokenKind}
use Rattle.js_grammar.specs.TypeSpelling.{Tokens}
use Rattle.js_grammar.specs.Machine as ty
use Rattle.js_grammar.specs.Machine.{end_mark}
use Rattle.js_grammar.specs.Code.{Ex}
use Rattle.js_grammar.specs.Items.{Items, no_item}
use Rattle.code_law.specs.Frames.{Mode, want, after_links, after_dot, row_start, fields_start, after_word, after_key, paren_start, paren_word, paren_mark, function_start, parameters_open, parameter_start, parameter_word, parameter_mark, parameters_end, arrow_start, settled, statements_start, after_binder, after_declared, after_return, after_simple, after_if, after_while, want_body, after_branch, after_else, items_start, after_type_word, after_alias, after_import, import_word, import_comma, names_start, after_name, after_as, after_pair, after_list, after_from, after_export, export_type, after_exports, exports_from, after_default, item_end, typing, Stack, Step, fault, go, done, done_items}
use Rattle.code_law.specs.Ladder.{settle}
use Rattle.code_law.specs.Expressions.{want_step, links_step, dot_step, row_step, fields_step, field_step, key_step, paren_step, paren_word_step, paren_mark_step, function_step, open_step, parameter_step, parameter_word_step, parameter_mark_step, end_step, arrow_step, takes_function, inside}
use Rattle.code_law.specs.Statements.{statements_step, binder_step, declared_step, return_step, semicolon_step, if_step, while_step, body_step, branch_step, else_step}
use Rattle.code_law.specs.Modules.{items_step, type_word_step, alias_step, import_step, import_word_step, import_comma_step, names_step, name_step, as_step, pair_step, from_step, source_step, export_step, export_type_step, exports_step, exports_from_step, default_step, end_item}

-- what a token at a place does in a state
abbrev pub step : ℕ → Stack → Mode → TokenKind → Step
step i k want x = want_step i k x
step i k (after_links b ls) x = links_step i k b ls x
step i k (after_dot b ls d) x = dot_step i k b ls d x
step i k (row_start r es) x = row_step i k r es x
step i k (fields_start s fs) x = fields_step i k s fs x
step i k (after_word s fs a n) x = field_step i k s fs a n x
step i k (after_key s fs y) x = key_step k s fs y x
step i k (paren_start s) x = paren_step i k s x
step i k (paren_word s a n) x = paren_word_step i k s a n x
step i k (paren_mark s a n p) x = paren_mark_step i k s a n p x
step i k (function_start q s) x = function_step i k q s x
step i k (parameters_open o) x = open_step i k o x
step i k (parameter_start o s ps) x = parameter_step i k o s ps x
step i k (parameter_word o s ps a n) x = parameter_word_step i k o s ps a n x
step i k (parameter_mark o s ps a n) x = parameter_mark_step k o s ps a n x
step i k (parameters_end o s ps c) x = end_step i k o s ps c x
step i k (arrow_start g) x = arrow_step i k g x
step i k (settled e) x = settle i k e x
step i k (statements_start s ss) x = statements_step i k s ss x
step i k (after_binder s w) x = binder_step k s w x
step i k (after_declared s w n) x = declared_step k s w n x
step i k (after_return s) x = return_step i k s x
step i k (after_simple y) x = semicolon_step i k y x
step i k (after_if s bs a) x = if_step k s bs a x
step i k (after_while s) x = while_step k s x
step i k want_body x = body_step i k x
step i k (after_branch s bs) x = branch_step i k s bs x
step i k (after_else s bs) x = else_step i k s bs x
step i k (items_start is) x = items_step i k is x
step i k (after_type_word a is) x = type_word_step i k a is x
step i k (after_alias a w is p n) x = alias_step k a w is p n x
step i k (after_import a is) x = import_step i k a is x
step i k (import_word a is n) x = import_word_step i k a is n x
step i k (import_comma a is n) x = import_comma_step i k a is n x
step i k (names_start q) x = names_step i k q x
step i k (after_name q p n) x = name_step i k q p n x
step i k (after_as q p n) x = as_step i k q p n x
step i k (after_pair q) x = pair_step i k q x
step i k (after_list a is m) x = from_step k a is m x
step i k (after_from a is m) x = source_step k a is m x
step i k (after_export a is) x = export_step i k a is x
step i k (export_type a is p) x = export_type_step i k a is p x
step i k (after_exports a is o ns) x = exports_step i k a is o ns x
step i k (exports_from a is o ns) x = exports_from_step k a is o ns x
step i k (after_default a is) x = default_step i k a is x
step i k (item_end a is y) x = end_item i k a is y x
step i k (typing w a m) x = inside i k w (ty.step (takes_function w) i a m x) x

-- how reading ends, and the tokens that are left then
pub data Outcome : Type 0 where
  faulty : Tokens → Outcome
  whole : Ex → Tokens → Outcome
  whole_items : Items → Tokens → Outcome

-- how reading goes on behind a step, where these tokens are left
abbrev pub resume : (Stack → Mode → Outcome) → Step → Tokens → Outcome
resume r fault l = faulty l
resume r (go k m) l = r k m
resume r (done e) l = whole e l
resume r (done_items is) l = whole_items is l

-- reading from a state on, where the end of the tokens is read as a token of its own
abbrev pub run : ℕ → Stack → Mode → Tokens → Outcome
run i k m [] = resume (λ k m. faulty []) (step i k m end_mark) []
run i k m (x ∷ l) = resume (λ k m. run (suc i) k m l) (step i k m x) (x ∷ l)

-- reading of an expression from the tokens' front, the first of which stands at a place
abbrev pub read_expression : ℕ → Tokens → Outcome
read_expression i l = run i [] want l

-- reading of a module
abbrev pub read_module : Tokens → Outcome
read_module l = run 0 [] (items_start no_item) l

-- reading from a step on, where the first of these tokens was its token
abbrev pub go_on : ℕ → Step → Tokens → Outcome
go_on i s [] = resume (λ k m. faulty []) s []
go_on i s (x ∷ l) = resume (λ k m. run (suc i) k m l) s (x ∷ l)
