-- Each state that is reached can be completed: some tokens lead from it to a whole module.
use Rattle.std.proofs.Common.{refl, ℕ, suc, Bool, true, false, Some, None, [], ◌∷◌, codes}
use Rattle.js_token.specs.declared.token.TokenKind.TheVariants.{Name, Number, Str, Punct}
use Rattle.js_token.specs.declared.punct.Punct.TheVariants.{OpenBrace, CloseBrace, OpenParen, CloseParen, CloseBracket, Comma, Semicolon, Colon, Assign, Arrow as ArrowMark}
use Rattle.js_grammar.specs.Words.{Bytes}
use Rattle.js_grammar.specs.TypeSpelling.{Tokens}
use Rattle.js_grammar.specs.Machine as ty
use Rattle.js_grammar.specs.Code.{Parameters, no_parameter, no_stmt, Exs, Sig, ex, number, no_link}
use Rattle.js_grammar.specs.Items.{Items, ImportForm, ItemForm, ExportList}
use Rattle.code_law.specs.Frames.{Row, array_row, call_row, opens_names, opens_both, opens_types, opens_exports, importing, exporting, Listing, listing, Owner, of_arrow, of_function, Waiting, parameter_type, result_type, declared_type, alias_type, cast_type, in_branch, in_parens, in_field, in_arrow, in_declaration, in_if_test, in_loop_test, in_if, in_else, in_loop, in_function, in_default, Mode, want, after_links, after_dot, row_start, fields_start, after_word, after_key, paren_start, paren_word, paren_mark, function_start, parameters_open, parameter_start, parameter_word, parameter_mark, parameters_end, arrow_start, settled, statements_start, after_binder, after_declared, after_return, after_simple, after_if, after_while, want_body, after_branch, after_else, items_start, after_type_word, after_alias, after_import, import_word, import_comma, names_start, after_name, after_as, after_pair, after_list, after_from, after_export, export_type, after_exports, exports_from, after_default, item_end, typing, Stack}
use Rattle.code_law.specs.Expressions.{takes_function}
use Rattle.code_law.proofs.Shapes.{value_hole, body_hole, block_hole, item_hole, owner_hole, waiting_hole, Takes, Matches, Shaped}
use Rattle.code_law.proofs.Closing.{Completes, by_token, by_paren, by_bracket, by_brace, by_colon, by_semicolon, Closes, after_closed, settles, wants, statements, bodies, items, closes, simples, branched, blocks}
use Rattle.code_law.proofs.Typing.{Typing, typing_at}
use Rattle.code_law.proofs.Typed.{after_typing}

-- an expression is written as a number
numbered : (k : Stack) → Takes value_hole k → (i j : ℕ) → Completes j k (after_links (ex i j (number [])) no_link)
numbered k h i j = after_closed k (closes k h) j (ex i j (number [])) no_link

wanted : (k : Stack) → Takes value_hole k → (i : ℕ) → Completes i k want
wanted k h i = wants k (closes k h) i

pub block_of : (k : Stack) → Takes body_hole k → Takes block_hole k
block_of (in_if s bs a e ∷ k) h = h
block_of (in_else s bs ∷ k) h = h
block_of (in_loop s e ∷ k) h = h
block_of k h = absurd h

v_arrow : (k : Stack) → Takes value_hole k → (i : ℕ) (g : Sig) → Completes i k (arrow_start g)
v_arrow k h i g = by_token i k (arrow_start g) (Number []) (numbered (in_arrow g ∷ k) h i (suc i))

v_end : (o : Owner) (k : Stack) → Takes (owner_hole o) k → (i s : ℕ) (ps : Parameters) (c : Bool) → Completes i k (parameters_end o s ps c)
v_end of_arrow k h i s ps c = by_token i k (parameters_end of_arrow s ps c) (Punct ArrowMark) (v_arrow k h (suc i) _)
v_end (of_function q a n) k h i s ps c = by_token i k (parameters_end (of_function q a n) s ps c) (Punct OpenBrace) (statements (in_function q a n _ ∷ k) (blocks (in_function q a n _ ∷ k) h) (suc i) i no_stmt)

v_parameters : (o : Owner) (k : Stack) → Takes (owner_hole o) k → (i s : ℕ) (ps : Parameters) → Completes i k (parameter_start o s ps)
v_parameters o k h i s ps = by_token i k (parameter_start o s ps) (Punct CloseParen) (v_end o k h (suc i) s ps _)

v_open : (o : Owner) (k : Stack) → Takes (owner_hole o) k → (i : ℕ) → Completes i k (parameters_open o)
v_open o k h i = by_token i k (parameters_open o) (Punct OpenParen) (v_parameters o k h (suc i) i no_parameter)

v_type : (w : Waiting) (k : Stack) → Takes (waiting_hole w) k → (i z : ℕ) (a : ty.Stack) (m : ty.Mode) (q : Tokens) → Typing (takes_function w) z i a m q → Completes i k (typing w a m)
v_type (parameter_type o s ps b n y) k h i z a m q r = after_typing i k (parameter_type o s ps b n y) z a m q r (Punct CloseParen) refl (λ j t. v_end o k h (suc j) s _ false)
v_type (result_type of_arrow s ps c) k h i z a m q r = after_typing i k (result_type of_arrow s ps c) z a m q r (Punct ArrowMark) refl (λ j t. v_arrow k h (suc j) _)
v_type (result_type (of_function p b n) s ps c) k h i z a m q r =
    after_typing i k (result_type (of_function p b n) s ps c) z a m q r (Punct OpenBrace) refl (λ j t. statements (in_function p b n _ ∷ k) (blocks (in_function p b n _ ∷ k) h) (suc j) j no_stmt)
v_type (declared_type s w n) k h i z a m q r = after_typing i k (declared_type s w n) z a m q r (Punct Assign) refl (λ j t. wanted (in_declaration s w n (Some t) ∷ k) h (suc j))
v_type (alias_type b w is p n) k h i z a m q r = after_typing i k (alias_type b w is p n) z a m q r (Punct Semicolon) refl (λ j t. items k h (suc j) _)
v_type (cast_type s e os d) k h i z a m q r = cast (closes k h)
  where
    cast : Closes k → Completes i k (typing (cast_type s e os d) a m)
    cast (by_paren, f) = after_typing i k (cast_type s e os d) z a m q r (Punct CloseParen) refl (λ j t. f j _)
    cast (by_bracket, f) = after_typing i k (cast_type s e os d) z a m q r (Punct CloseBracket) refl (λ j t. f j _)
    cast (by_brace, f) = after_typing i k (cast_type s e os d) z a m q r (Punct CloseBrace) refl (λ j t. f j _)
    cast (by_colon, f) = after_typing i k (cast_type s e os d) z a m q r (Punct Colon) refl (λ j t. f j _)
    cast (by_semicolon, f) = after_typing i k (cast_type s e os d) z a m q r (Punct Semicolon) refl (λ j t. f j _)

v_typed : (w : Waiting) (k : Stack) → Takes (waiting_hole w) k → (i : ℕ) → Completes i k (typing w [] ty.want)
v_typed w k h i = let r = typing_at (takes_function w) i i refl in v_type w k h i i [] ty.want (r.0) (r.1)

v_row : (r : Row) (k : Stack) → Takes value_hole k → (i : ℕ) (es : Exs) → Completes i k (row_start r es)
v_row (array_row s) k h i es = by_token i k (row_start (array_row s) es) (Punct CloseBracket) (after_closed k (closes k h) (suc i) _ _)
v_row (call_row b ls s) k h i es = by_token i k (row_start (call_row b ls s) es) (Punct CloseParen) (after_closed k (closes k h) (suc i) _ _)

module _ (k : Stack) (h : Takes item_hole k) where
  v_item : (i a : ℕ) (is : Items) (x : ItemForm) → Completes i k (item_end a is x)
  v_item i a is x = by_token i k (item_end a is x) (Punct Semicolon) (items k h (suc i) _)

  v_source : (i a : ℕ) (is : Items) (m : ImportForm) → Completes i k (after_from a is m)
  v_source i a is m = by_token i k (after_from a is m) (Str []) (v_item (suc i) a is _)

  v_from : (i a : ℕ) (is : Items) (m : ImportForm) → Completes i k (after_list a is m)
  v_from i a is m = by_token i k (after_list a is m) (Name (codes "from")) (v_source (suc i) a is m)

  v_exports_from : (i a : ℕ) (is : Items) (o : Bool) (ns : ExportList) → Completes i k (exports_from a is o ns)
  v_exports_from i a is o ns = by_token i k (exports_from a is o ns) (Str []) (v_item (suc i) a is _)

  v_exports : (i a : ℕ) (is : Items) (o : Bool) (ns : ExportList) → Completes i k (after_exports a is o ns)
  v_exports i a is o ns = by_token i k (after_exports a is o ns) (Name (codes "from")) (v_exports_from (suc i) a is o ns)

  v_names : (q : Listing) → Matches q → (i : ℕ) → Completes i k (names_start q)
  v_names (listing a is opens_names s (importing ns)) e i = by_token i k (names_start (listing a is opens_names s (importing ns))) (Punct CloseBrace) (v_from (suc i) a is _)
  v_names (listing a is (opens_both n) s (importing ns)) e i = by_token i k (names_start (listing a is (opens_both n) s (importing ns))) (Punct CloseBrace) (v_from (suc i) a is _)
  v_names (listing a is opens_types s (importing ns)) e i = by_token i k (names_start (listing a is opens_types s (importing ns))) (Punct CloseBrace) (v_from (suc i) a is _)
  v_names (listing a is (opens_exports o) s (exporting ns)) e i = by_token i k (names_start (listing a is (opens_exports o) s (exporting ns))) (Punct CloseBrace) (v_exports (suc i) a is o _)
  v_names q e i = absurd e

  v_pair : (q : Listing) → Matches q → (i : ℕ) → Completes i k (after_pair q)
  v_pair q e i = by_token i k (after_pair q) (Punct Comma) (v_names q e (suc i))

  v_as : (q : Listing) → Matches q → (i p : ℕ) (n : Bytes) → Completes i k (after_as q p n)
  v_as (listing a is opens_names s (importing ns)) e i p n = by_token i k (after_as (listing a is opens_names s (importing ns)) p n) (Name (codes "a")) (v_pair _ tt (suc i))
  v_as (listing a is (opens_both b) s (importing ns)) e i p n = by_token i k (after_as (listing a is (opens_both b) s (importing ns)) p n) (Name (codes "a")) (v_pair _ tt (suc i))
  v_as (listing a is opens_types s (importing ns)) e i p n = by_token i k (after_as (listing a is opens_types s (importing ns)) p n) (Name (codes "a")) (v_pair _ tt (suc i))
  v_as (listing a is (opens_exports o) s (exporting ns)) e i p n = by_token i k (after_as (listing a is (opens_exports o) s (exporting ns)) p n) (Name (codes "a")) (v_pair _ tt (suc i))
  v_as q e i p n = absurd e

pub viable : (k : Stack) (m : Mode) (i : ℕ) → Shaped k m i → Completes i k m
viable k want i h = wanted k h i
viable k (after_links b ls) i h = after_closed k (closes k h) i b ls
viable k (after_dot b ls d) i h = by_token i k (after_dot b ls d) (Name []) (after_closed k (closes k h) (suc i) _ _)
viable k (row_start r es) i h = v_row r k h i es
viable k (fields_start s fs) i h = by_token i k (fields_start s fs) (Punct CloseBrace) (after_closed k (closes k h) (suc i) _ _)
viable k (after_word s fs a n) i h = by_token i k (after_word s fs a n) (Punct Colon) (wanted (in_field s fs _ ∷ k) h (suc i))
viable k (after_key s fs y) i h = by_token i k (after_key s fs y) (Punct Colon) (wanted (in_field s fs y ∷ k) h (suc i))
viable k (paren_start s) i h = by_token i k (paren_start s) (Number []) (numbered (in_parens s ∷ k) h i (suc i))
viable k (paren_word s a n) i h = by_token i k (paren_word s a n) (Punct CloseParen) (after_closed k (closes k h) (suc i) _ _)
viable k (paren_mark s a n p) i h = by_token i k (paren_mark s a n p) (Number []) (numbered (in_branch a _ _ ∷ in_parens s ∷ k) h i (suc i))
viable k (function_start q s) i h = by_token i k (function_start q s) (Name (codes "f")) (v_open (of_function q s (Some (codes "f"))) k h (suc i))
viable k (parameters_open o) i h = v_open o k h i
viable k (parameter_start o s ps) i h = v_parameters o k h i s ps
viable k (parameter_word o s ps a n) i h = by_token i k (parameter_word o s ps a n) (Punct Colon) (v_typed (parameter_type o s ps a n false) k h (suc i))
viable k (parameter_mark o s ps a n) i h = by_token i k (parameter_mark o s ps a n) (Punct Colon) (v_typed (parameter_type o s ps a n true) k h (suc i))
viable k (parameters_end o s ps c) i h = v_end o k h i s ps c
viable k (arrow_start g) i h = v_arrow k h i g
viable k (settled e) i h = settles k (closes k h) i e
viable k (statements_start s ss) i h = statements k (blocks k h) i s ss
viable k (after_binder s w) i h = by_token i k (after_binder s w) (Name (codes "a")) (by_token (suc i) k (after_declared s w (codes "a")) (Punct Assign) (wanted (in_declaration s w (codes "a") None ∷ k) h (suc (suc i))))
viable k (after_declared s w n) i h = by_token i k (after_declared s w n) (Punct Assign) (wanted (in_declaration s w n None ∷ k) h (suc i))
viable k (after_return s) i h = by_token i k (after_return s) (Punct Semicolon) (simples k h i _)
viable k (after_simple y) i h = by_token i k (after_simple y) (Punct Semicolon) (simples k h i y)
viable k (after_if s bs a) i h = by_token i k (after_if s bs a) (Punct OpenParen) (wanted (in_if_test s bs a ∷ k) h (suc i))
viable k (after_while s) i h = by_token i k (after_while s) (Punct OpenParen) (wanted (in_loop_test s ∷ k) h (suc i))
viable k want_body i h = bodies k (blocks k (block_of k h)) i
viable k (after_branch s bs) i h = branched k h i s bs
viable k (after_else s bs) i h = by_token i k (after_else s bs) (Punct OpenBrace) (statements (in_else s bs ∷ k) (blocks (in_else s bs ∷ k) h) (suc i) i no_stmt)
viable k (items_start is) i h = items k h i is
viable k (after_type_word a is) i h = by_token i k (after_type_word a is) (Punct Semicolon) (items k h (suc i) _)
viable k (after_alias a w is p n) i h = by_token i k (after_alias a w is p n) (Punct Assign) (v_typed (alias_type a w is p n) k h (suc i))
viable k (after_import a is) i h = by_token i k (after_import a is) (Str []) (v_item k h (suc i) a is _)
viable k (import_word a is n) i h = by_token i k (import_word a is n) (Name (codes "from")) (v_source k h (suc i) a is _)
viable k (import_comma a is n) i h = by_token i k (import_comma a is n) (Punct OpenBrace) (v_names k h _ tt (suc i))
viable k (names_start q) i h = v_names k (h.0) q (h.1) i
viable k (after_name q p n) i h = by_token i k (after_name q p n) (Name (codes "as")) (v_as k (h.0) q (h.1) (suc i) p n)
viable k (after_as q p n) i h = v_as k (h.0) q (h.1) i p n
viable k (after_pair q) i h = v_pair k (h.0) q (h.1) i
viable k (after_list a is m) i h = v_from k h i a is m
viable k (after_from a is m) i h = v_source k h i a is m
viable k (after_export a is) i h = by_token i k (after_export a is) (Punct OpenBrace) (v_names k h _ tt (suc i))
viable k (export_type a is p) i h = by_token i k (export_type a is p) (Punct OpenBrace) (v_names k h _ tt (suc i))
viable k (after_exports a is o ns) i h = v_exports k h i a is o ns
viable k (exports_from a is o ns) i h = v_exports_from k h i a is o ns
viable k (after_default a is) i h = by_token i k (after_default a is) (Number []) (numbered (in_default a is ∷ k) h i (suc i))
viable k (item_end a is y) i h = v_item k h i a is y
viable k (typing w a m) i h = v_type w k (h.0) i (h.1) a m (h.2) (h.3)
