-- The shapes of the states that are reached: what each stack waits for.
use Rattle.std.proofs.Common.{◌≡◌, refl, ℕ, Bool, true, false, [], ◌∷◌}
use Rattle.std.proofs.lemmas.Bool.{false≢true}
use Rattle.js_grammar.specs.TypeSpelling.{Tokens}
use Rattle.code_law.specs.Frames.{array_row, call_row, plain_item, FunctionKind, is_value, is_statement, is_default, opens_names, opens_both, opens_types, opens_exports, importing, exporting, Listing, listing, Owner, of_arrow, of_function, Waiting, parameter_type, result_type, declared_type, alias_type, cast_type, in_prefix, in_chain, in_last, in_branch, in_parens, in_row, in_index, in_field, in_arrow, in_body, in_simple, in_declaration, in_if_test, in_loop_test, in_if, in_else, in_loop, in_function, in_block, in_item, in_default, Mode, want, after_links, after_dot, row_start, fields_start, after_word, after_key, paren_start, paren_word, paren_mark, function_start, parameters_open, parameter_start, parameter_word, parameter_mark, parameters_end, arrow_start, settled, statements_start, after_binder, after_declared, after_return, after_simple, after_if, after_while, want_body, after_branch, after_else, items_start, after_type_word, after_alias, after_import, import_word, import_comma, names_start, after_name, after_as, after_pair, after_list, after_from, after_export, export_type, after_exports, exports_from, after_default, item_end, typing, Stack, start_ex, start_sig, start_simple}
use Rattle.code_law.specs.Expressions.{takes_function}
use Rattle.code_law.proofs.Typing.{Typing}
use Rattle.code_law.proofs.States.{takes_ex, takes_statement, takes_body, takes_block, takes_simple, takes_declaration, may_define, is_top_verb, IsBottom, FitsStack, FitsOwner, FitsListing, FitsWaiting, type_start, FitsMode}

-- what a stack may wait for: an expression; a simple statement; a body; a statement; a block; a declaration
-- or a named function; the function behind `export default`; an item
pub data Hole : Type 0 where
  value_hole : Hole
  simple_hole : Hole
  body_hole : Hole
  statement_hole : Hole
  block_hole : Hole
  named_hole : Hole
  default_hole : Hole
  item_hole : Hole

abbrev pub function_hole : FunctionKind → Hole
function_hole is_value = value_hole
function_hole is_statement = named_hole
function_hole is_default = default_hole

abbrev pub owner_hole : Owner → Hole
owner_hole of_arrow = value_hole
owner_hole (of_function q s n) = function_hole q

abbrev pub waiting_hole : Waiting → Hole
waiting_hole (parameter_type o s ps a n m) = owner_hole o
waiting_hole (result_type o s ps c) = owner_hole o
waiting_hole (declared_type s w n) = named_hole
waiting_hole (alias_type a w is p n) = item_hole
waiting_hole (cast_type s e os d) = value_hole

abbrev pub Takes : Hole → Stack → Type 0
Takes value_hole (in_prefix s ps ∷ k) = Takes value_hole k
Takes value_hole (in_chain s p e os d o ∷ k) = Takes value_hole k
Takes value_hole (in_last s hs ∷ k) = Takes value_hole k
Takes value_hole (in_branch s hs e ∷ k) = Takes value_hole k
Takes value_hole (in_parens s ∷ k) = Takes value_hole k
Takes value_hole (in_row r es ∷ k) = Takes value_hole k
Takes value_hole (in_index b ls s ∷ k) = Takes value_hole k
Takes value_hole (in_field s fs y ∷ k) = Takes value_hole k
Takes value_hole (in_arrow g ∷ k) = Takes value_hole k
Takes value_hole (in_simple s v ∷ k) = Takes simple_hole k
Takes value_hole (in_declaration s w n a ∷ k) = Takes named_hole k
Takes value_hole (in_if_test s bs a ∷ k) = Takes statement_hole k
Takes value_hole (in_loop_test s ∷ k) = Takes statement_hole k
Takes value_hole (in_default a is ∷ k) = Takes item_hole k
Takes simple_hole (in_block s ss ∷ k) = Takes block_hole k
Takes simple_hole (in_item a w is ∷ k) = Takes item_hole k
Takes simple_hole (in_if s bs a e ∷ k) = Takes statement_hole k
Takes simple_hole (in_else s bs ∷ k) = Takes statement_hole k
Takes simple_hole (in_loop s e ∷ k) = Takes statement_hole k
Takes body_hole (in_if s bs a e ∷ k) = Takes statement_hole k
Takes body_hole (in_else s bs ∷ k) = Takes statement_hole k
Takes body_hole (in_loop s e ∷ k) = Takes statement_hole k
Takes statement_hole (in_block s ss ∷ k) = Takes block_hole k
Takes block_hole (in_function q s n g ∷ k) = Takes (function_hole q) k
Takes block_hole (in_body g ∷ k) = Takes value_hole k
Takes block_hole (in_block s ss ∷ k) = Takes block_hole k
Takes block_hole (in_if s bs a e ∷ k) = Takes statement_hole k
Takes block_hole (in_else s bs ∷ k) = Takes statement_hole k
Takes block_hole (in_loop s e ∷ k) = Takes statement_hole k
Takes named_hole (in_block s ss ∷ k) = Takes block_hole k
Takes named_hole (in_item a w is ∷ k) = Takes item_hole k
Takes default_hole (in_item a w is ∷ k) = Takes item_hole k
Takes item_hole [] = Unit {0}
Takes h k = ⊥

-- what opens a list of names says which names
abbrev pub Matches : Listing → Type 0
Matches (listing a is opens_names s (importing ns)) = Unit {0}
Matches (listing a is (opens_both n) s (importing ns)) = Unit {0}
Matches (listing a is opens_types s (importing ns)) = Unit {0}
Matches (listing a is (opens_exports o) s (exporting ns)) = Unit {0}
Matches q = ⊥

abbrev pub Shaped : Stack → Mode → ℕ → Type 0
Shaped k want i = Takes value_hole k
Shaped k (after_links b ls) i = Takes value_hole k
Shaped k (after_dot b ls d) i = Takes value_hole k
Shaped k (row_start r es) i = Takes value_hole k
Shaped k (fields_start s fs) i = Takes value_hole k
Shaped k (after_word s fs a n) i = Takes value_hole k
Shaped k (after_key s fs y) i = Takes value_hole k
Shaped k (paren_start s) i = Takes value_hole k
Shaped k (paren_word s a n) i = Takes value_hole k
Shaped k (paren_mark s a n p) i = Takes value_hole k
Shaped k (function_start q s) i = Takes (function_hole q) k
Shaped k (parameters_open o) i = Takes (owner_hole o) k
Shaped k (parameter_start o s ps) i = Takes (owner_hole o) k
Shaped k (parameter_word o s ps a n) i = Takes (owner_hole o) k
Shaped k (parameter_mark o s ps a n) i = Takes (owner_hole o) k
Shaped k (parameters_end o s ps c) i = Takes (owner_hole o) k
Shaped k (arrow_start g) i = Takes value_hole k
Shaped k (settled e) i = Takes value_hole k
Shaped k (statements_start s ss) i = Takes block_hole k
Shaped k (after_binder s w) i = Takes named_hole k
Shaped k (after_declared s w n) i = Takes named_hole k
Shaped k (after_return s) i = Takes simple_hole k
Shaped k (after_simple y) i = Takes simple_hole k
Shaped k (after_if s bs a) i = Takes statement_hole k
Shaped k (after_while s) i = Takes statement_hole k
Shaped k want_body i = Takes body_hole k
Shaped k (after_branch s bs) i = Takes statement_hole k
Shaped k (after_else s bs) i = Takes statement_hole k
Shaped k (names_start q) i = Takes item_hole k × Matches q
Shaped k (after_name q p n) i = Takes item_hole k × Matches q
Shaped k (after_as q p n) i = Takes item_hole k × Matches q
Shaped k (after_pair q) i = Takes item_hole k × Matches q
Shaped k (typing w a m) i = Takes (waiting_hole w) k × (start : ℕ) × (q : Tokens) × Typing (takes_function w) start i a m q
Shaped k m i = Takes item_hole k

abbrev test : Hole → Stack → Bool
test value_hole k = takes_ex k
test simple_hole k = takes_simple k true
test body_hole k = takes_body k
test statement_hole k = takes_statement k
test block_hole k = takes_block k
test named_hole k = takes_declaration k
test default_hole k = may_define is_default k
test item_hole k = false

any_simple : (k : Stack) (b : Bool) → takes_simple k b ≡ true → takes_simple k true ≡ true
any_simple (in_item a plain_item is ∷ k) b t = refl
any_simple (in_item a w is ∷ k) b t = t
any_simple k b t = t

bottom : (k : Stack) → IsBottom k → Takes item_hole k
bottom [] h = tt
bottom (f ∷ k) h = h

takes : (h : Hole) (k : Stack) (i : ℕ) → FitsStack k i → test h k ≡ true → Takes h k
takes value_hole (in_prefix s ps ∷ k) i f t = takes value_hole k s (f.1) (f.0.0)
takes value_hole (in_chain s p e os d o ∷ k) i f t = takes value_hole k s (f.1) (f.0.0)
takes value_hole (in_last s hs ∷ k) i f t = takes value_hole k s (f.1) (f.0.0)
takes value_hole (in_branch s hs e ∷ k) i f t = takes value_hole k s (f.1) (f.0.0)
takes value_hole (in_parens s ∷ k) i f t = takes value_hole k s (f.1) (f.0.0)
takes value_hole (in_row (array_row s) es ∷ k) i f t = takes value_hole k s (f.1) (f.0.0)
takes value_hole (in_row (call_row b ls s) es ∷ k) i f t = takes value_hole k (start_ex b) (f.1) (f.0.0.0)
takes value_hole (in_index b ls s ∷ k) i f t = takes value_hole k (start_ex b) (f.1) (f.0.0)
takes value_hole (in_field s fs y ∷ k) i f t = takes value_hole k s (f.1) (f.0.0)
takes value_hole (in_arrow g ∷ k) i f t = takes value_hole k (start_sig g) (f.1) (f.0.0)
takes value_hole (in_simple s v ∷ k) i f t = takes simple_hole k s (f.1) (any_simple k (is_top_verb v) (f.0.0))
takes value_hole (in_declaration s w n a ∷ k) i f t = takes named_hole k s (f.1) (f.0.0)
takes value_hole (in_if_test s bs a ∷ k) i f t = takes statement_hole k s (f.1) (f.0.0)
takes value_hole (in_loop_test s ∷ k) i f t = takes statement_hole k s (f.1) (f.0.0)
takes value_hole (in_default a is ∷ k) i f t = bottom k (f.0.0.0)
takes simple_hole (in_block s ss ∷ k) i f t = takes block_hole k s (f.1) (f.0.0)
takes simple_hole (in_item a w is ∷ k) i f t = bottom k (f.0.0.0)
takes simple_hole (in_if s bs a e ∷ k) i f t = takes statement_hole k s (f.1) (f.0.0)
takes simple_hole (in_else s bs ∷ k) i f t = takes statement_hole k s (f.1) (f.0.0)
takes simple_hole (in_loop s e ∷ k) i f t = takes statement_hole k s (f.1) (f.0.0)
takes body_hole (in_if s bs a e ∷ k) i f t = takes statement_hole k s (f.1) (f.0.0)
takes body_hole (in_loop s e ∷ k) i f t = takes statement_hole k s (f.1) (f.0.0)
takes statement_hole (in_block s ss ∷ k) i f t = takes block_hole k s (f.1) (f.0.0)
takes block_hole (in_function is_value s n g ∷ k) i f t = takes value_hole k s (f.1) (f.0.0)
takes block_hole (in_function is_statement s n g ∷ k) i f t = takes named_hole k s (f.1) (f.0.0)
takes block_hole (in_function is_default s n g ∷ k) i f t = takes default_hole k s (f.1) (f.0.0)
takes block_hole (in_body g ∷ k) i f t = takes value_hole k (start_sig g) (f.1) (f.0.0)
takes block_hole (in_block s ss ∷ k) i f t = takes block_hole k s (f.1) (f.0.0)
takes block_hole (in_if s bs a e ∷ k) i f t = takes statement_hole k s (f.1) (f.0.0)
takes block_hole (in_else s bs ∷ k) i f t = takes statement_hole k s (f.1) (f.0.0)
takes block_hole (in_loop s e ∷ k) i f t = takes statement_hole k s (f.1) (f.0.0)
takes named_hole (in_block s ss ∷ k) i f t = takes block_hole k s (f.1) (f.0.0)
takes named_hole (in_item a w is ∷ k) i f t = bottom k (f.0.0.0)
takes default_hole (in_item a w is ∷ k) i f t = bottom k (f.0.0.0)
takes h k i f t = absurd (false≢true t)

takes_defined : (c : FunctionKind) (k : Stack) (i : ℕ) → FitsStack k i → may_define c k ≡ true → Takes (function_hole c) k
takes_defined is_value k i f t = takes value_hole k i f t
takes_defined is_statement k i f t = takes named_hole k i f t
takes_defined is_default k i f t = takes default_hole k i f t

takes_owner : (o : Owner) (k : Stack) (i : ℕ) → FitsOwner o k i → Takes (owner_hole o) k
takes_owner of_arrow k i h = takes value_hole k i (h.0) (h.1)
takes_owner (of_function c s n) k i h = takes_defined c k s (h.0) (h.1)

takes_waiting : (w : Waiting) (k : Stack) → FitsWaiting k w → Takes (waiting_hole w) k
takes_waiting (parameter_type o s ps a n m) k h = takes_owner o k s (h.0.0)
takes_waiting (result_type o s ps c) k h = takes_owner o k s (h.0.0)
takes_waiting (declared_type s w n) k h = takes named_hole k s (h.0) (h.1)
takes_waiting (alias_type a w is p n) k h = bottom k (h.0.0)
takes_waiting (cast_type s e os d) k h = takes value_hole k s (h.0) (h.1)

matches : (k : Stack) (q : Listing) → FitsListing k q → Matches q
matches k (listing a is opens_names s (importing ns)) h = tt
matches k (listing a is (opens_both n) s (importing ns)) h = tt
matches k (listing a is opens_types s (importing ns)) h = tt
matches k (listing a is (opens_exports o) s (exporting ns)) h = tt
matches k (listing a is opens_names s (exporting ns)) h = h.1
matches k (listing a is (opens_both n) s (exporting ns)) h = h.1
matches k (listing a is opens_types s (exporting ns)) h = h.1
matches k (listing a is (opens_exports o) s (importing ns)) h = h.1

listed : (k : Stack) (q : Listing) → FitsListing k q → Takes item_hole k × Matches q
listed k (listing a is o s ns) h = (bottom k (h.0.0), matches k (listing a is o s ns) h)

-- a state that fits has its shape
pub shape : (k : Stack) (m : Mode) (i : ℕ) → FitsMode k m i → Shaped k m i
shape k want i h = takes value_hole k i (h.0) (h.1)
shape k (after_links b ls) i h = takes value_hole k (start_ex b) (h.0) (h.1)
shape k (after_dot b ls d) i h = takes value_hole k (start_ex b) (h.0) (h.1)
shape k (row_start (array_row s) es) i h = takes value_hole k s (h.0) (h.1)
shape k (row_start (call_row b ls s) es) i h = takes value_hole k (start_ex b) (h.0) (h.1.0)
shape k (fields_start s fs) i h = takes value_hole k s (h.0) (h.1)
shape k (after_word s fs a n) i h = takes value_hole k s (h.0) (h.1)
shape k (after_key s fs y) i h = takes value_hole k s (h.0) (h.1)
shape k (paren_start s) i h = takes value_hole k s (h.0) (h.1)
shape k (paren_word s a n) i h = takes value_hole k s (h.0) (h.1)
shape k (paren_mark s a n p) i h = takes value_hole k s (h.0) (h.1)
shape k (function_start q s) i h = takes_defined q k s (h.0) (h.1)
shape k (parameters_open o) i h = takes_owner o k i h
shape k (parameter_start o s ps) i h = takes_owner o k s (h.0.0)
shape k (parameter_word o s ps a n) i h = takes_owner o k s (h.0.0)
shape k (parameter_mark o s ps a n) i h = takes_owner o k s (h.0.0)
shape k (parameters_end o s ps c) i h = takes_owner o k s (h.0.0)
shape k (arrow_start g) i h = takes value_hole k (start_sig g) (h.0) (h.1)
shape k (settled e) i h = takes value_hole k (start_ex e) (h.0) (h.1)
shape k (statements_start s ss) i h = takes block_hole k s (h.0) (h.1)
shape k (after_binder s w) i h = takes named_hole k s (h.0) (h.1)
shape k (after_declared s w n) i h = takes named_hole k s (h.0) (h.1)
shape k (after_return s) i h = takes simple_hole k s (h.0) (any_simple k false (h.1))
shape k (after_simple y) i h = takes simple_hole k (start_simple y) (h.0) (any_simple k false (h.1))
shape k (after_if s bs a) i h = takes statement_hole k s (h.0) (h.1)
shape k (after_while s) i h = takes statement_hole k s (h.0) (h.1)
shape k want_body i h = takes body_hole k i (h.0) (h.1)
shape k (after_branch s bs) i h = takes statement_hole k s (h.0) (h.1)
shape k (after_else s bs) i h = takes statement_hole k s (h.0) (h.1)
shape k (items_start is) i h = bottom k (h.0)
shape k (after_type_word a is) i h = bottom k (h.0.0)
shape k (after_alias a w is p n) i h = bottom k (h.0.0.0)
shape k (after_import a is) i h = bottom k (h.0.0)
shape k (import_word a is n) i h = bottom k (h.0.0)
shape k (import_comma a is n) i h = bottom k (h.0.0)
shape k (names_start q) i h = listed k q (h.0)
shape k (after_name q p n) i h = listed k q (h.0)
shape k (after_as q p n) i h = listed k q (h.0)
shape k (after_pair q) i h = listed k q (h.0)
shape k (after_list a is m) i h = bottom k (h.0.0)
shape k (after_from a is m) i h = bottom k (h.0.0)
shape k (after_export a is) i h = bottom k (h.0.0)
shape k (export_type a is p) i h = bottom k (h.0.0)
shape k (after_exports a is o ns) i h = bottom k (h.0.0)
shape k (exports_from a is o ns) i h = bottom k (h.0.0)
shape k (after_default a is) i h = bottom k (h.0.0)
shape k (item_end a is y) i h = bottom k (h.0.0)
shape k (typing w a m) i h = (takes_waiting w k (h.0), type_start w, h.1, h.2)
