-- The items so far only grow: behind where an item begins there is one more of them.
use Rattle.std.proofs.Common.{◌≡◌, refl, sym, ◌∙◌, ap, subst, ℕ, suc, ◌≤◌, nat_eq, nat_le, arith, Bool, true, false, [], ◌∷◌, Option, Some, None, codes, if◌then◌else◌}
use Rattle.std.specs.Str.{bytes_eq}
use Rattle.std.proofs.lemmas.Bool.{true≢false}
use Rattle.js_token.specs.Words.{is_reserved}
use Rattle.js_token.specs.declared.token.TokenKind.{TokenKind}
use Rattle.js_token.specs.declared.token.TokenKind.TheVariants.{Name, Number, Str, Punct}
use Rattle.js_token.specs.declared.punct.Punct.TheVariants.{OpenBrace, CloseBrace, OpenParen, CloseParen, OpenBracket, CloseBracket, Dot, Comma, Semicolon, Colon, Question, Assign, Arrow as ArrowMark, Plus, Minus, Bang, PlusPlus}
use Rattle.js_grammar.specs.Words.{Bytes}
use Rattle.js_grammar.specs.Types.{Key, Ty}
use Rattle.js_grammar.specs.TypeSpelling.{Tokens}
use Rattle.js_grammar.specs.Machine as ty
use Rattle.js_grammar.specs.Machine.{end_mark}
use Rattle.js_grammar.specs.Code.{Level, rank, operand_rank, Prefix, Ex, ex, variable, chain, form_rank, ex_rank, Exs, has_exs, Links, no_link, Operands, no_operand, Fields, more_field, field, shorthand, has_fields, Arms, no_arm, Function, Sig, sig, Parameters, more_parameter, parameter, has_parameters, Block, Body, block_body, simple_body, Stmts, Stmt, stmt, more_stmt, declares, function_stmt, Declaration, Simple, simple, Branches, is_target}
use Rattle.js_grammar.specs.Items.{Items, no_item, more_item, ImportForm, import_default, ExportList, ItemForm, exports, export_names}
use Rattle.code_law.specs.Frames.{Row, array_row, call_row, FunctionKind, is_value, is_statement, is_default, Wrap, plain_item, exported_item, default_item, opens_names, opens_both, opens_types, opens_exports, importing, exporting, Listing, listing, Owner, of_arrow, of_function, Verb, returns, throws, evaluates, Waiting, parameter_type, result_type, declared_type, alias_type, cast_type, in_prefix, in_chain, in_last, in_branch, in_parens, in_row, in_index, in_field, in_arrow, in_body, in_simple, in_declaration, in_if_test, in_loop_test, in_if, in_else, in_loop, in_function, in_block, in_item, in_default, Mode, want, after_links, after_dot, row_start, fields_start, after_word, after_key, paren_start, paren_word, paren_mark, function_start, parameters_open, parameter_start, parameter_word, parameter_mark, parameters_end, arrow_start, settled, statements_start, after_binder, after_declared, after_return, after_simple, after_if, after_while, want_body, after_branch, after_else, items_start, after_type_word, after_alias, after_import, import_word, import_comma, names_start, after_name, after_as, after_pair, after_list, after_from, after_export, export_type, after_exports, exports_from, after_default, item_end, typing, Stack, Step, fault, go, done, done_items, start_function}
use Rattle.code_law.specs.Bodies.{give_stmt, give_body, give_item, give_declaration, give_function, give_block, end_simple, end_value}
use Rattle.code_law.specs.Ladder.{Joint, applies, casts, Turn, joins, asks, sticks, ends, turn, after_item, after_field, close, ask_test, ask, begin, open_chain, join, settle_at, settle}
use Rattle.code_law.specs.Expressions.{ValueWord, variable_word, null_word, truth_of, kind_word, function_word, other_word, value_word, marked, may_arrow, word_step, want_step, linked, links_step, dot_step, row_step, fields_step, field_step, key_step, paren_step, paren_word_step, paren_mark_step, parameter_step, after_parameter, parameter_word_step, parameter_mark_step, open_step, function_step, open_body, end_step, arrow_step, after_type, takes_function, inside}
use Rattle.code_law.specs.Statements.{StatementWord, binds, begins_function, if_word, else_word, while_word, return_word, throw_word, break_word, continue_word, begins_import, begins_export, plain_word, statement_word, simple_word, simple_step, block_word, statements_step, return_step, semicolon_step, binder_step, declared_step, if_step, while_step, body_step, is_else, end_branches, branch_step, after_else_word, else_step}
use Rattle.code_law.specs.Modules.{top_word, items_step, may_alias, type_word_step, alias_step, import_step, from_step, import_word_step, import_comma_step, add_name, end_names, has_names, names_step, pair_step, may_name, name_step, as_step, source_step, end_item, export_word, export_step, export_type_step, are_local, exports_step, exports_from_step, default_word, default_step}
use Rattle.code_law.specs.Machine.{step, Outcome, faulty, whole, whole_items, resume, run}

abbrev pub size : Items → ℕ
size no_item = 0
size (more_item is x) = suc (size is)

-- the number of items before the open forms
abbrev pub count : Stack → ℕ
count [] = 0
count (in_item a w is ∷ k) = size is
count (in_default a is ∷ k) = size is
count (f ∷ k) = count k

abbrev listed : Listing → ℕ
listed (listing a is q s ns) = size is

-- the number of items, with the one that is begun
abbrev pub weight : Stack → Mode → ℕ
weight k (items_start is) = size is
weight k (after_type_word a is) = suc (size is)
weight k (after_alias a w is p n) = suc (size is)
weight k (after_import a is) = suc (size is)
weight k (import_word a is n) = suc (size is)
weight k (import_comma a is n) = suc (size is)
weight k (names_start q) = suc (listed q)
weight k (after_name q p n) = suc (listed q)
weight k (after_as q p n) = suc (listed q)
weight k (after_pair q) = suc (listed q)
weight k (after_list a is m) = suc (size is)
weight k (after_from a is m) = suc (size is)
weight k (after_export a is) = suc (size is)
weight k (export_type a is p) = suc (size is)
weight k (after_exports a is o ns) = suc (size is)
weight k (exports_from a is o ns) = suc (size is)
weight k (after_default a is) = suc (size is)
weight k (item_end a is y) = suc (size is)
weight k (typing (alias_type a w is p n) b m) = suc (size is)
weight k m = suc (count k)

-- what a step leaves weighs n
pub data Weighs (n : ℕ) : Step → Type 0 where
  w_fault : Weighs n fault
  w_go : {k : Stack} {m : Mode} → weight k m ≡ n → Weighs n (go k m)
  w_done : {e : Ex} → Weighs n (done e)
  w_items : {is : Items} → size is ≡ n → Weighs n (done_items is)

g_if : (b : Bool) {n : ℕ} {s t : Step} → Weighs n s → Weighs n t → Weighs n (if b then s else t)
g_if true h j = h
g_if false h j = j

g_if_else : (b c : Bool) {n : ℕ} {r s t : Step} → Weighs n r → Weighs n s → Weighs n t → Weighs n (if b then r else if c then s else t)
g_if_else true c h j l = h
g_if_else false true h j l = j
g_if_else false false h j l = l

g_if_both : (b c : Bool) {n : ℕ} {r s t : Step} → Weighs n r → Weighs n s → Weighs n t → Weighs n (if b then (if c then r else s) else t)
g_if_both true true h j l = h
g_if_both true false h j l = j
g_if_both false c h j l = l

g_stmt : (k : Stack) (y : Stmt) → Weighs (suc (count k)) (give_stmt k y)
g_stmt (in_block s ss ∷ k) y = w_go refl
g_stmt k y = w_fault

g_body : (i : ℕ) (k : Stack) (b : Body) → Weighs (suc (count k)) (give_body i k b)
g_body i (in_loop s e ∷ k) b = g_stmt k _
g_body i (in_if s bs a e ∷ k) b = w_go refl
g_body i (in_else s bs ∷ k) b = g_stmt k _
g_body i k b = w_fault

g_declaration : (i : ℕ) (k : Stack) (s : ℕ) (d : Declaration) → Weighs (suc (count k)) (give_declaration i k s d)
g_declaration i (in_item a w is ∷ k) s d = w_go refl
g_declaration i k s d = g_stmt k (stmt s i (declares d))

g_function : (i : ℕ) (k : Stack) (q : FunctionKind) (f : Function) → Weighs (suc (count k)) (give_function i k q f)
g_function i (in_item a w is ∷ k) is_statement f = w_go refl
g_function i (in_item a w is ∷ k) is_default f = w_go refl
g_function i k is_statement f = g_stmt k (stmt (start_function f) i (function_stmt f))
g_function i k is_default f = w_fault
g_function i k is_value f = w_go refl

g_block : (i : ℕ) (k : Stack) (b : Block) → Weighs (suc (count k)) (give_block i k b)
g_block i (in_function q s n g ∷ k) b = g_function i k q _
g_block i (in_body g ∷ k) b = w_go refl
g_block i (in_block s ss ∷ k) b = w_go refl
g_block i k b = g_body i k (block_body b)

g_end_simple : (i : ℕ) (k : Stack) (y : Simple) → Weighs (suc (count k)) (end_simple i k y)
g_end_simple i (in_block s ss ∷ k) y = w_go refl
g_end_simple i (in_item a w is ∷ k) y = w_go refl
g_end_simple i k y = g_body (suc i) k (simple_body y)

g_end_value : (i : ℕ) (k : Stack) (s : ℕ) (v : Verb) (e : Ex) (x : TokenKind) → Weighs (suc (count k)) (end_value i k s v e x)
g_end_value i k s v e (Punct Semicolon) = g_end_simple i k _
g_end_value i k s evaluates e (Punct Assign) = g_if _ (w_go refl) w_fault
g_end_value i k s v e _ = w_fault

g_row : (i : ℕ) (k : Stack) (r : Row) (es : Exs) (x : TokenKind) → Weighs (suc (count k)) (after_item i k r es x)
g_row i k (array_row s) es (Punct CloseBracket) = w_go refl
g_row i k (call_row b ls s) es (Punct CloseParen) = w_go refl
g_row i k r es (Punct Comma) = w_go refl
g_row i k r es _ = w_fault

g_field : (i : ℕ) (k : Stack) (s : ℕ) (fs : Fields) (x : TokenKind) → Weighs (suc (count k)) (after_field i k s fs x)
g_field i k s fs (Punct CloseBrace) = w_go refl
g_field i k s fs (Punct Comma) = w_go refl
g_field i k s fs _ = w_fault

g_close : (i : ℕ) (k : Stack) (e : Ex) (x : TokenKind) → Weighs (suc (count k)) (close i k e x)
g_close i [] e x = w_done
g_close i (in_prefix s ps ∷ k) e x = g_close i k _ x
g_close i (in_chain s p f os d o ∷ k) e x = g_close i k _ x
g_close i (in_last s hs ∷ k) e x = g_close i k _ x
g_close i (in_arrow g ∷ k) e x = g_close i k _ x
g_close i (in_branch s hs a ∷ k) e (Punct Colon) = w_go refl
g_close i (in_branch s hs a ∷ k) e _ = w_fault
g_close i (in_parens s ∷ k) e (Punct CloseParen) = w_go refl
g_close i (in_parens s ∷ k) e _ = w_fault
g_close i (in_row r es ∷ k) e x = g_row i k r _ x
g_close i (in_index b ls s ∷ k) e (Punct CloseBracket) = w_go refl
g_close i (in_index b ls s ∷ k) e _ = w_fault
g_close i (in_field s fs y ∷ k) e x = g_field i k s _ x
g_close i (in_simple s v ∷ k) e x = g_end_value i k s v e x
g_close i (in_declaration s w n a ∷ k) e (Punct Semicolon) = g_declaration (suc i) k s _
g_close i (in_declaration s w n a ∷ k) e _ = w_fault
g_close i (in_if_test s bs a ∷ k) e (Punct CloseParen) = w_go refl
g_close i (in_if_test s bs a ∷ k) e _ = w_fault
g_close i (in_loop_test s ∷ k) e (Punct CloseParen) = w_go refl
g_close i (in_loop_test s ∷ k) e _ = w_fault
g_close i (in_default a is ∷ k) e (Punct Semicolon) = w_go refl
g_close i (in_default a is ∷ k) e _ = w_fault
g_close i (f ∷ k) e x = w_fault

g_test : (k : Stack) (s : ℕ) (hs : Arms) (e : Ex) → Weighs (suc (count k)) (ask_test k s hs e)
g_test k s hs e = g_if _ (w_go refl) w_fault

g_ask : (i : ℕ) (k : Stack) (e : Ex) → Weighs (suc (count k)) (ask i k e)
g_ask i (in_prefix s ps ∷ k) e = g_ask i k _
g_ask i (in_chain s p f os d o ∷ k) e = g_ask i k _
g_ask i (in_last s hs ∷ k) e = g_test k s hs e
g_ask i k e = g_test k _ _ e

g_begin : (i : ℕ) (k : Stack) (s : ℕ) (p : Level) (f : Ex) (os : Operands) (w : Joint) → Weighs (suc (count k)) (begin i k s p f os w)
g_begin i k s p f os (applies o) = w_go refl
g_begin i k s p f os casts = w_go refl

g_open : (i : ℕ) (k : Stack) (e : Ex) (p : Level) (w : Joint) → Weighs (suc (count k)) (open_chain i k e p w)
g_open i k (ex s t (chain q f os)) p w =
    g_if_else (nat_eq (rank q) (rank p)) (nat_le (operand_rank p) (rank q)) (g_begin i k s p f os w) (g_begin i k s p (ex s t (chain q f os)) no_operand w) w_fault
g_open i k (ex s t x) p w = g_if (nat_le (operand_rank p) (form_rank x)) (g_begin i k s p (ex s t x) no_operand w) w_fault

g_join : (i : ℕ) (k : Stack) (e : Ex) (p : Level) (w : Joint) → Weighs (suc (count k)) (join i k e p w)
g_join i (in_prefix s ps ∷ k) e p w = g_join i k _ p w
g_join i (in_chain s q f os d o ∷ k) e p w = g_if_both _ _ (g_open i (in_chain s q f os d o ∷ k) e p w) w_fault (g_join i k _ p w)
g_join i k e p w = g_open i k e p w

g_settle_at : (i : ℕ) (k : Stack) (e : Ex) (c : Turn) (x : TokenKind) → Weighs (suc (count k)) (settle_at i k e c x)
g_settle_at i k e (joins w) x = g_join i k e _ w
g_settle_at i k e asks x = g_ask i k e
g_settle_at i k e sticks x = w_fault
g_settle_at i k e ends x = g_close i k e x

marked_count : (i : ℕ) (x : Prefix) (k : Stack) → count (marked i x k) ≡ count k
marked_count i x (in_prefix s ps ∷ k) = refl
marked_count i x k = refl

g_word : (i : ℕ) (k : Stack) (n : Bytes) (w : ValueWord) → Weighs (suc (count k)) (word_step i k n w)
g_word i k n variable_word = w_go refl
g_word i k n null_word = w_go refl
g_word i k n (truth_of b) = w_go refl
g_word i k n kind_word = w_go (ap suc (marked_count i _ k))
g_word i k n function_word = w_go refl
g_word i k n other_word = w_fault

g_want : (i : ℕ) (k : Stack) (x : TokenKind) → Weighs (suc (count k)) (want_step i k x)
g_want i k (Name n) = g_word i k n (value_word n)
g_want i k (Number n) = w_go refl
g_want i k (Str s) = w_go refl
g_want i k (Punct OpenParen) = w_go refl
g_want i k (Punct OpenBracket) = w_go refl
g_want i k (Punct OpenBrace) = w_go refl
g_want i k (Punct Bang) = w_go (ap suc (marked_count i _ k))
g_want i k (Punct Minus) = w_go (ap suc (marked_count i _ k))
g_want i k (Punct Plus) = w_go (ap suc (marked_count i _ k))
g_want i k (Punct _) = w_fault

g_links : (i : ℕ) (k : Stack) (b : Ex) (ls : Links) (x : TokenKind) → Weighs (suc (count k)) (links_step i k b ls x)
g_links i k b ls (Punct Dot) = w_go refl
g_links i k b ls (Punct OpenBracket) = w_go refl
g_links i k b ls (Punct OpenParen) = w_go refl
g_links i k b ls x = g_settle_at i k (linked i b ls) (turn x) x

g_next : (k : Stack) (o : Owner) (s : ℕ) (ps : Parameters) (x : TokenKind) → Weighs (suc (count k)) (after_parameter k o s ps x)
g_next k o s ps (Punct CloseParen) = w_go refl
g_next k o s ps (Punct Comma) = w_go refl
g_next k o s ps _ = w_fault

g_open_body : (i : ℕ) (k : Stack) (o : Owner) (g : Sig) (x : TokenKind) → Weighs (suc (count k)) (open_body i k o g x)
g_open_body i k of_arrow g (Punct ArrowMark) = w_go refl
g_open_body i k (of_function q s n) g (Punct OpenBrace) = w_go refl
g_open_body i k o g _ = w_fault

g_type : (i : ℕ) (k : Stack) (w : Waiting) (t : Ty) (x : TokenKind) → Weighs (weight k (typing w [] ty.want)) (after_type i k w t x)
g_type i k (parameter_type o s ps a n m) t x = g_next k o s _ x
g_type i k (result_type o s ps c) t x = g_open_body i k o _ x
g_type i k (declared_type s w n) t (Punct Assign) = w_go refl
g_type i k (declared_type s w n) t _ = w_fault
g_type i k (alias_type a w is p n) t (Punct Semicolon) = w_go refl
g_type i k (alias_type a w is p n) t _ = w_fault
g_type i k (cast_type s e os d) t x = g_settle_at i k _ (turn x) x

g_simple_word : (i : ℕ) (k : Stack) (n : Bytes) (w : StatementWord) → Weighs (suc (count k)) (simple_word i k n w)
g_simple_word i k n return_word = g_if _ (w_go refl) w_fault
g_simple_word i k n throw_word = w_go refl
g_simple_word i k n break_word = g_if _ (w_go refl) w_fault
g_simple_word i k n continue_word = g_if _ (w_go refl) w_fault
g_simple_word i k n plain_word = g_want i (in_simple i evaluates ∷ k) (Name n)
g_simple_word i k n w = w_fault

g_simple : (i : ℕ) (k : Stack) (x : TokenKind) → Weighs (suc (count k)) (simple_step i k x)
g_simple i k (Name n) = g_simple_word i k n (statement_word n)
g_simple i k (Punct OpenBrace) = w_fault
g_simple i k x = g_want i (in_simple i evaluates ∷ k) x

g_block_word : (i : ℕ) (k : Stack) (n : Bytes) (w : StatementWord) → Weighs (suc (count k)) (block_word i k n w)
g_block_word i k n (binds w) = w_go refl
g_block_word i k n begins_function = w_go refl
g_block_word i k n if_word = w_go refl
g_block_word i k n while_word = w_go refl
g_block_word i k n w = g_simple_word i k n w

g_statements : (i : ℕ) (k : Stack) (s : ℕ) (ss : Stmts) (x : TokenKind) → Weighs (suc (count k)) (statements_step i k s ss x)
g_statements i k s ss (Punct CloseBrace) = g_block (suc i) k _
g_statements i k s ss (Punct OpenBrace) = w_go refl
g_statements i k s ss (Name n) = g_block_word i (in_block s ss ∷ k) n (statement_word n)
g_statements i k s ss x = g_simple i (in_block s ss ∷ k) x

g_body_step : (i : ℕ) (k : Stack) (x : TokenKind) → Weighs (suc (count k)) (body_step i k x)
g_body_step i k (Punct OpenBrace) = w_go refl
g_body_step i k x = g_simple i k x

g_end_branches : (i : ℕ) (k : Stack) (s : ℕ) (bs : Branches) (x : TokenKind) → Weighs (suc (count k)) (end_branches i k s bs x)
g_end_branches i (in_block z ss ∷ k) s bs x = g_statements i k z _ x
g_end_branches i k s bs x = w_fault

g_else_word : (i : ℕ) (k : Stack) (s : ℕ) (bs : Branches) (n : Bytes) (w : StatementWord) → Weighs (suc (count k)) (after_else_word i k s bs n w)
g_else_word i k s bs n if_word = w_go refl
g_else_word i k s bs n w = g_simple_word i (in_else s bs ∷ k) n w

g_from : (k : Stack) (a : ℕ) (is : Items) (m : ImportForm) (x : TokenKind) → Weighs (suc (size is)) (from_step k a is m x)
g_from k a is m (Name n) = g_if _ (w_go refl) w_fault
g_from k a is m _ = w_fault

g_end_names : (i : ℕ) (k : Stack) (q : Listing) (c : Bool) → Weighs (suc (listed q)) (end_names i k q c)
g_end_names i k (listing a is opens_names s (importing ns)) c = w_go refl
g_end_names i k (listing a is (opens_both n) s (importing ns)) c = w_go refl
g_end_names i k (listing a is opens_types s (importing ns)) c = w_go refl
g_end_names i k (listing a is (opens_exports o) s (exporting ns)) c = w_go refl
g_end_names i k q c = w_fault

add_listed : (q : Listing) (f t : ℕ) (n : Bytes) (o : Option Bytes) → listed (add_name q f t n o) ≡ listed q
add_listed (listing a is q s (importing ns)) f t n None = refl
add_listed (listing a is q s (importing ns)) f t n (Some m) = refl
add_listed (listing a is q s (exporting ns)) f t n o = refl

g_pair : (i : ℕ) (k : Stack) (q : Listing) (x : TokenKind) → Weighs (suc (listed q)) (pair_step i k q x)
g_pair i k q (Punct CloseBrace) = g_end_names i k q false
g_pair i k q (Punct Comma) = w_go refl
g_pair i k q _ = w_fault

g_end_item : (i : ℕ) (k : Stack) (a : ℕ) (is : Items) (y : ItemForm) (x : TokenKind) → Weighs (suc (size is)) (end_item i k a is y x)
g_end_item i k a is y (Punct Semicolon) = w_go refl
g_end_item i k a is y _ = w_fault

g_export_word : (i : ℕ) (k : Stack) (a : ℕ) (is : Items) (n : Bytes) (w : StatementWord) → Weighs (suc (size is)) (export_word i k a is n w)
g_export_word i k a is n (binds w) = w_go refl
g_export_word i k a is n begins_function = w_go refl
g_export_word i k a is n w = g_if_else (bytes_eq n (codes "type")) (bytes_eq n (codes "default")) (w_go {k = k} {m = export_type a is i} refl) (w_go {k = k} {m = after_default a is} refl) w_fault

g_default_word : (i : ℕ) (k : Stack) (a : ℕ) (is : Items) (n : Bytes) (w : StatementWord) → Weighs (suc (size is)) (default_word i k a is n w)
g_default_word i k a is n begins_function = w_go refl
g_default_word i k a is n w = g_want i (in_default a is ∷ k) (Name n)

g_top_word : (i : ℕ) (k : Stack) (is : Items) (n : Bytes) (w : StatementWord) → Weighs (suc (size is)) (top_word i k is n w)
g_top_word i k is n (binds w) = w_go refl
g_top_word i k is n begins_function = w_go refl
g_top_word i k is n begins_import = w_go refl
g_top_word i k is n begins_export = w_go refl
g_top_word i k is n plain_word = g_if _ (w_go refl) (g_simple_word i (in_item i plain_item is ∷ k) n plain_word)
g_top_word i k is n w = w_fault

abbrev is_end : TokenKind → Bool
is_end (Punct PlusPlus) = true
is_end _ = false

-- where an item begins: the items end, or one more is begun
g_items : (i : ℕ) (k : Stack) (is : Items) (x : TokenKind) → is_end x ≡ false → Weighs (suc (size is)) (items_step i k is x)
g_items i k is (Punct PlusPlus) h = absurd (true≢false h)
g_items i k is (Name n) h = g_top_word i k is n (statement_word n)
g_items i k is x h = g_simple i (in_item i plain_item is ∷ k) x

abbrev at_items : Mode → Bool
at_items (items_start is) = true
at_items m = false

g_step : (i : ℕ) (k : Stack) (m : Mode) (x : TokenKind) → at_items m ≡ false → Weighs (weight k m) (step i k m x)
g_step i k want x h = g_want i k x
g_step i k (after_links b ls) x h = g_links i k b ls x
g_step i k (after_dot b ls d) (Name n) h = w_go refl
g_step i k (after_dot b ls d) x h = w_fault
g_step i k (row_start (array_row s) es) (Punct CloseBracket) h = w_go refl
g_step i k (row_start (call_row b ls s) es) (Punct CloseParen) h = w_go refl
g_step i k (row_start r es) x h = g_want i (in_row r es ∷ k) x
g_step i k (fields_start s fs) (Punct CloseBrace) h = w_go refl
g_step i k (fields_start s fs) (Name n) h = w_go refl
g_step i k (fields_start s fs) (Str n) h = w_go refl
g_step i k (fields_start s fs) x h = w_fault
g_step i k (after_word s fs a n) (Punct Colon) h = w_go refl
g_step i k (after_word s fs a n) x h = g_if (is_reserved n) w_fault (g_field i k s (more_field fs (field a i (shorthand n))) x)
g_step i k (after_key s fs y) (Punct Colon) h = w_go refl
g_step i k (after_key s fs y) x h = w_fault
g_step i k (paren_start s) (Punct CloseParen) h = g_if _ (w_go refl) w_fault
g_step i k (paren_start s) (Name n) h = g_if (is_reserved n) (g_want i (in_parens s ∷ k) (Name n)) (w_go refl)
g_step i k (paren_start s) x h = g_want i (in_parens s ∷ k) x
g_step i k (paren_word s a n) (Punct Colon) h = g_if _ (w_go refl) w_fault
g_step i k (paren_word s a n) (Punct Question) h = w_go refl
g_step i k (paren_word s a n) x h = g_links i (in_parens s ∷ k) (ex a i (variable n)) no_link x
g_step i k (paren_mark s a n p) (Punct Colon) h = g_if _ (w_go refl) w_fault
g_step i k (paren_mark s a n p) x h = g_want i (in_branch a no_arm (ex a p (variable n)) ∷ in_parens s ∷ k) x
g_step i k (function_start q s) (Name n) h = g_if _ w_fault (w_go refl)
g_step i k (function_start is_statement s) x h = w_fault
g_step i k (function_start q s) (Punct OpenParen) h = w_go refl
g_step i k (function_start q s) x h = w_fault
g_step i k (parameters_open o) (Punct OpenParen) h = w_go refl
g_step i k (parameters_open o) x h = w_fault
g_step i k (parameter_start o s ps) (Punct CloseParen) h = w_go refl
g_step i k (parameter_start o s ps) (Name n) h = g_if _ w_fault (w_go refl)
g_step i k (parameter_start o s ps) x h = w_fault
g_step i k (parameter_word o s ps a n) (Punct Colon) h = w_go refl
g_step i k (parameter_word o s ps a n) (Punct Question) h = w_go refl
g_step i k (parameter_word of_arrow s ps a n) x h = w_fault
g_step i k (parameter_word (of_function q f m) s ps a n) x h = g_next k (of_function q f m) s (more_parameter ps (parameter a i n false None)) x
g_step i k (parameter_mark o s ps a n) (Punct Colon) h = w_go refl
g_step i k (parameter_mark o s ps a n) x h = w_fault
g_step i k (parameters_end o s ps c) (Punct Colon) h = w_go refl
g_step i k (parameters_end o s ps c) x h = g_open_body i k o (sig s i ps c None) x
g_step i k (arrow_start g) (Punct OpenBrace) h = w_go refl
g_step i k (arrow_start g) x h = g_want i (in_arrow g ∷ k) x
g_step i k (settled e) x h = g_settle_at i k e (turn x) x
g_step i k (statements_start s ss) x h = g_statements i k s ss x
g_step i k (after_binder s w) (Name n) h = g_if _ w_fault (w_go refl)
g_step i k (after_binder s w) x h = w_fault
g_step i k (after_declared s w n) (Punct Colon) h = w_go refl
g_step i k (after_declared s w n) (Punct Assign) h = w_go refl
g_step i k (after_declared s w n) x h = w_fault
g_step i k (after_return s) (Punct Semicolon) h = g_end_simple i k _
g_step i k (after_return s) x h = g_want i (in_simple s returns ∷ k) x
g_step i k (after_simple y) (Punct Semicolon) h = g_end_simple i k y
g_step i k (after_simple y) x h = w_fault
g_step i k (after_if s bs a) (Punct OpenParen) h = w_go refl
g_step i k (after_if s bs a) x h = w_fault
g_step i k (after_while s) (Punct OpenParen) h = w_go refl
g_step i k (after_while s) x h = w_fault
g_step i k want_body x h = g_body_step i k x
g_step i k (after_branch s bs) x h = g_if _ (w_go refl) (g_end_branches i k s bs x)
g_step i k (after_else s bs) (Name n) h = g_else_word i k s bs n (statement_word n)
g_step i k (after_else s bs) x h = g_body_step i (in_else s bs ∷ k) x
g_step i k (items_start is) x h = absurd (true≢false h)
g_step i k (after_type_word a is) (Name n) h = g_if _ (w_go refl) w_fault
g_step i k (after_type_word a is) x h = g_links i (in_simple a evaluates ∷ in_item a plain_item is ∷ k) (ex a i (variable (codes "type"))) no_link x
g_step i k (after_alias a w is p n) (Punct Assign) h = w_go refl
g_step i k (after_alias a w is p n) x h = w_fault
g_step i k (after_import a is) (Str s) h = w_go refl
g_step i k (after_import a is) (Name n) h = g_if _ w_fault (w_go refl)
g_step i k (after_import a is) (Punct OpenBrace) h = w_go refl
g_step i k (after_import a is) x h = w_fault
g_step i k (import_word a is n) (Punct OpenBrace) h = g_if _ (w_go refl) w_fault
g_step i k (import_word a is n) (Punct Comma) h = w_go refl
g_step i k (import_word a is n) x h = g_from k a is (import_default n) x
g_step i k (import_comma a is n) (Punct OpenBrace) h = w_go refl
g_step i k (import_comma a is n) x h = w_fault
g_step i k (names_start q) (Punct CloseBrace) h = g_end_names i k q (has_names q)
g_step i k (names_start q) (Name n) h = w_go refl
g_step i k (names_start q) x h = w_fault
g_step i k (after_name q p n) (Name m) h = g_if _ (w_go refl) w_fault
g_step i k (after_name q p n) x h = g_if (may_name q n) (subst (λ z. Weighs (suc z) (pair_step i k (add_name q p i n None) x)) (add_listed q p i n None) (g_pair i k (add_name q p i n None) x)) w_fault
g_step i k (after_as q p n) (Name m) h = g_if _ (w_go (ap suc (add_listed q p (suc i) n (Some m)))) w_fault
g_step i k (after_as q p n) x h = w_fault
g_step i k (after_pair q) x h = g_pair i k q x
g_step i k (after_list a is m) x h = g_from k a is m x
g_step i k (after_from a is m) (Str s) h = w_go refl
g_step i k (after_from a is m) x h = w_fault
g_step i k (after_export a is) (Name n) h = g_export_word i k a is n (statement_word n)
g_step i k (after_export a is) (Punct OpenBrace) h = w_go refl
g_step i k (after_export a is) x h = w_fault
g_step i k (export_type a is p) (Name n) h = g_if _ (w_go refl) w_fault
g_step i k (export_type a is p) (Punct OpenBrace) h = w_go refl
g_step i k (export_type a is p) x h = w_fault
g_step i k (after_exports a is o ns) (Name n) h = g_if _ (w_go refl) w_fault
g_step i k (after_exports a is o ns) x h = g_if (are_local ns) (g_end_item i k a is (exports (export_names o ns)) x) w_fault
g_step i k (exports_from a is o ns) (Str s) h = w_go refl
g_step i k (exports_from a is o ns) x h = w_fault
g_step i k (after_default a is) (Name n) h = g_default_word i k a is n (statement_word n)
g_step i k (after_default a is) x h = g_want i (in_default a is ∷ k) x
g_step i k (item_end a is y) x h = g_end_item i k a is y x
g_step i k (typing w a m) x h = inner (ty.step (takes_function w) i a m x)
  where
    held : (w : Waiting) (b : ty.Stack) (n : ty.Mode) → weight k (typing w b n) ≡ weight k (typing w a m)
    held (alias_type c v is p n) b o = refl
    held w b o = refl

    asked : (w : Waiting) → weight k (typing w [] ty.want) ≡ weight k (typing w a m)
    asked w = held w [] ty.want

    inner : (s : ty.Step) → Weighs (weight k (typing w a m)) (inside i k w s x)
    inner ty.fault = w_fault
    inner (ty.go b n) = w_go (held w b n)
    inner (ty.done t) = subst (λ z. Weighs z (after_type i k w t x)) (asked w) (g_type i k w t x)

not_whole : (l : Tokens) (is : Items) → faulty l ≡ whole_items is [] → ⊥
not_whole l is e = cc

no_value : (u : Ex) (l : Tokens) (is : Items) → whole u l ≡ whole_items is [] → ⊥
no_value u l is e = cc

no_rest : (js is : Items) (x : TokenKind) (l : Tokens) → whole_items js (x ∷ l) ≡ whole_items is [] → ⊥
no_rest js is x l e = cc

same_items : (js is : Items) → whole_items js [] ≡ whole_items is [] → js ≡ is
same_items js is e = cc

at_end : (n : ℕ) (is : Items) (s : Step) → Weighs n s → resume (λ k m. faulty []) s [] ≡ whole_items is [] → n ≤ size is
at_end n is fault g e = absurd (not_whole [] is e)
at_end n is (go k m) g e = absurd (not_whole [] is e)
at_end n is (done u) g e = absurd (no_value u [] is e)
at_end n is (done_items js) (w_items h) e = let p : size js ≡ size is = ap size (same_items js is e) in omega arith

-- what the run on the rest makes of each state
abbrev Grows : Tokens → Type 0
Grows w = (i : ℕ) (k : Stack) (m : Mode) (is : Items) → run i k m w ≡ whole_items is [] → weight k m ≤ size is

behind : (n i : ℕ) (x : TokenKind) (w : Tokens) → Grows w → (is : Items) (s : Step) → Weighs n s → resume (λ k m. run (suc i) k m w) s (x ∷ w) ≡ whole_items is [] → n ≤ size is
behind n i x w f is fault g e = absurd (not_whole (x ∷ w) is e)
behind n i x w f is (go k m) (w_go h) e = subst (λ n. n ≤ size is) h (f (suc i) k m is e)
behind n i x w f is (done u) g e = absurd (no_value u (x ∷ w) is e)
behind n i x w f is (done_items js) g e = absurd (no_rest js is x w e)

-- behind a token where an item begins there is one more
begun : (x : TokenKind) (w : Tokens) → Grows w → (i : ℕ) (k : Stack) (js is : Items) → run i k (items_start js) (x ∷ w) ≡ whole_items is [] → suc (size js) ≤ size is
begun (Punct PlusPlus) w f i k js is e = absurd (no_rest js is (Punct PlusPlus) w e)
begun x w f i k js is e = behind (suc (size js)) i x w f is (step i k (items_start js) x) (g_items i k js x refl) e

grows : (w : Tokens) → Grows w
grows [] i k (items_start js) is e = let p : size js ≡ size is = ap size (same_items js is e) in omega arith
grows [] i k m is e = at_end (weight k m) is (step i k m end_mark) (g_step i k m end_mark refl) e
grows (x ∷ w) i k (items_start js) is e = let p = begun x w (grows w) i k js is e in omega arith
grows (x ∷ w) i k m is e = behind (weight k m) i x w (grows w) is (step i k m x) (g_step i k m x refl) e

pub one_more : (x : TokenKind) (w : Tokens) (i : ℕ) (k : Stack) (js is : Items) → run i k (items_start js) (x ∷ w) ≡ whole_items is [] → suc (size js) ≤ size is
one_more x w i k js is e = begun x w (grows w) i k js is e
