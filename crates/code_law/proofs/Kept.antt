-- Each step keeps what its state stands for: the tokens that are read, and the trees that it holds.
use Rattle.std.proofs.Common.{ℕ, ◌∷◌}
use Rattle.js_token.specs.declared.token.TokenKind.{TokenKind}
use Rattle.js_grammar.specs.TypeSpelling.{Tokens}
use Rattle.code_law.specs.Frames.{Mode, want, after_links, after_dot, row_start, fields_start, after_word, after_key, paren_start, paren_word, paren_mark, function_start, parameters_open, parameter_start, parameter_word, parameter_mark, parameters_end, arrow_start, settled, statements_start, after_binder, after_declared, after_return, after_simple, after_if, after_while, want_body, after_branch, after_else, items_start, after_type_word, after_alias, after_import, import_word, import_comma, names_start, after_name, after_as, after_pair, after_list, after_from, after_export, export_type, after_exports, exports_from, after_default, item_end, typing, Stack}
use Rattle.code_law.specs.Machine.{step}
use Rattle.code_law.proofs.States.{spell_mode, FitsMode, FitsStep, Stands}
use Rattle.code_law.proofs.KeptLadder.{k_settle}
use Rattle.code_law.proofs.KeptExpressions.{k_want, k_links, k_dot, k_row, k_fields, k_field_word, k_key, k_paren, k_paren_word, k_paren_mark, k_arrow}
use Rattle.code_law.proofs.KeptParameters.{k_open, k_function_start, k_parameter, k_parameter_word, k_parameter_mark, k_end, k_typing}
use Rattle.code_law.proofs.KeptStatements.{k_statements, k_return, k_semicolon, k_binder, k_declared, k_if_open, k_while_open, k_body_start, k_branch, k_else, body_block, body_simple}
use Rattle.code_law.proofs.KeptModules.{k_items, k_type_word, k_alias, k_import, k_import_word, k_import_comma, k_names, k_name, k_as, k_pair, k_from, k_source, k_export, k_export_type, k_exports, k_exports_from, k_default, k_end_item}

-- The token x at i comes behind the tokens q; p are q and it.
module _ (q p : Tokens) (i : ℕ) (k : Stack) (x : TokenKind) where
  pub kept : (m : Mode) → FitsMode k m i → Stands q k (spell_mode m) → Stands p k (λ l. spell_mode m (x ∷ l)) → FitsStep q p i (step i k m x)
  kept want h r s = k_want q p i k x (h.0) (h.1) s
  kept (after_links b ls) h r s = k_links q p i k b ls x (h.0) (h.1) (h.2) s
  kept (after_dot b ls d) h r s = k_dot q p i k b ls d h x s
  kept (row_start e es) h r s = k_row q p i k e es h x s
  kept (fields_start z fs) h r s = k_fields q p i k z fs h x s
  kept (after_word z fs a n) h r s = k_field_word q p i k z fs a n h x s
  kept (after_key z fs y) h r s = k_key q p i k z fs y h x s
  kept (paren_start z) h r s = k_paren q p i k z h x s
  kept (paren_word z a n) h r s = k_paren_word q p i k z a n h x s
  kept (paren_mark z a n b) h r s = k_paren_mark q p i k z a n b h x s
  kept (function_start c z) h r s = k_function_start q p i k c z h x s
  kept (parameters_open o) h r s = k_open q p i k o h x s
  kept (parameter_start o z ps) h r s = k_parameter q p i k o z ps h x s
  kept (parameter_word o z ps a n) h r s = k_parameter_word q p i k o z ps a n h x s
  kept (parameter_mark o z ps a n) h r s = k_parameter_mark q p i k o z ps a n h x s
  kept (parameters_end o z ps c) h r s = k_end q p i k o z ps c h x s
  kept (arrow_start g) h r s = k_arrow q p i k g h x s
  kept (settled e) h r s = k_settle q p i k e h x s
  kept (statements_start z ss) h r s = k_statements q p i k z ss h x s
  kept (after_binder z w) h r s = k_binder q p i k z w h x s
  kept (after_declared z w n) h r s = k_declared q p i k z w n h x s
  kept (after_return z) h r s = k_return q p i k z h x s
  kept (after_simple y) h r s = k_semicolon q p i k y h x s
  kept (after_if z bs a) h r s = k_if_open q p i k z bs a h x s
  kept (after_while z) h r s = k_while_open q p i k z h x s
  kept want_body h r s = k_body_start q p i k (h.0) (body_block k (h.1)) (body_simple k (h.1)) x s
  kept (after_branch z bs) h r s = k_branch q p i k z bs h x s
  kept (after_else z bs) h r s = k_else q p i k z bs h x s
  kept (items_start is) h r s = k_items q p i k is h x r s
  kept (after_type_word a is) h r s = k_type_word q p i k a is h x s
  kept (after_alias a w is b n) h r s = k_alias q p i k a w is b n h x s
  kept (after_import a is) h r s = k_import q p i k a is h x s
  kept (import_word a is n) h r s = k_import_word q p i k a is n h x s
  kept (import_comma a is n) h r s = k_import_comma q p i k a is n h x s
  kept (names_start y) h r s = k_names q p i k y h x s
  kept (after_name y b n) h r s = k_name q p i k y b n h x s
  kept (after_as y b n) h r s = k_as q p i k y b n h x s
  kept (after_pair y) h r s = k_pair q p i k y h x s
  kept (after_list a is m) h r s = k_from q p i k a is m h x s
  kept (after_from a is m) h r s = k_source q p i k a is m h x s
  kept (after_export a is) h r s = k_export q p i k a is h x s
  kept (export_type a is b) h r s = k_export_type q p i k a is b h x s
  kept (after_exports a is o ns) h r s = k_exports q p i k a is o ns h x s
  kept (exports_from a is o ns) h r s = k_exports_from q p i k a is o ns h x s
  kept (after_default a is) h r s = k_default q p i k a is h x s
  kept (item_end a is y) h r s = k_end_item q p i k a is y h x s
  kept (typing w a m) h r s = k_typing q p i k w a m (h.1) x (h.0) (h.2) s
