-- What a state of the machine stands for: the tokens that it has read, and the trees that it holds, at their places.
use Rattle.std.proofs.Common.{◌≡◌, ℕ, suc, ◌≤◌, Bool, true, false, Option, [], ◌∷◌, ◌++◌, codes}
use Rattle.js_token.specs.declared.token.TokenKind.{TokenKind}
use Rattle.js_token.specs.declared.token.TokenKind.TheVariants.{Name, Str, Punct}
use Rattle.js_token.specs.declared.punct.Punct.TheVariants.{OpenBrace, OpenParen, CloseParen, OpenBracket, Dot, Comma, Colon, Question, Assign, Arrow as ArrowMark}
use Rattle.js_grammar.specs.Words.{Bytes, IsName}
use Rattle.js_grammar.specs.TypeSpelling.{Tokens, opt, spell_key}
use Rattle.js_grammar.specs.TypeFits.{bump, FitsKey, CommaFits}
use Rattle.js_grammar.proofs.Sound as typed
use Rattle.js_grammar.specs.Code.{Level, relation_level, rank, operand_rank, level_of, Ex, primary_rank, Links, Operands, Parameters, has_parameters, has_prefixes, has_arms, has_branches, ex_rank, is_target}
use Rattle.js_grammar.specs.CodeSpelling.{mark_of, binder_word, spell_prefixes, spell_annotation, spell_name, spell_sig, spell_named, spell_parameters, spell_ex, spell_listed, spell_links, spell_operands, spell_entries, spell_arms, spell_stmts, spell_simple, spell_branches, spell_elses}
use Rattle.js_grammar.specs.CodePlaces.{stop_prefixes, stop_annotation, stop_name, stop_named, stop_parameters, stop_sig, stop_ex, stop_listed, stop_links, stop_operands, stop_entries, stop_arms, stop_stmts, stop_simple, stop_branches, stop_elses}
use Rattle.js_grammar.specs.CodeFits.{Context, BeginsPlain, InFunction, FitsPrefixes, FitsAnnotation, FitsName, is_some, FitsParameters, FitsSig, AllTyped, IsArrowSig, FitsEx, FitsExs, FitsLinks, FitsOperands, FitsFields, FitsArms, FitsStmts, FitsSimple, FitsBranches}
use Rattle.js_grammar.specs.Items.{ImportForm, import_default, import_both, import_names, import_types, import_only, export_names, export_from, ItemForm, imports, exports, Items, from_word, type_word, spell_begun_imports, spell_importeds, spell_begun_exports, spell_exporteds, spell_import_list, spell_export_list, spell_import, spell_items, stop_begun_imports, stop_importeds, stop_begun_exports, stop_exporteds, stop_import_list, stop_export_list, stop_import, stop_item_form, stop_items, FitsImporteds, FitsExporteds, FitsExportList, FitsImport, base_names, IsNoneOf, begins_alias, FitsItemForm, FitsItems}
use Rattle.code_law.specs.Frames.{Row, array_row, call_row, FunctionKind, is_value, is_statement, is_default, Wrap, plain_item, exported_item, default_item, Opening, opens_names, opens_both, opens_types, opens_exports, Names, importing, exporting, Listing, listing, Owner, of_arrow, of_function, Verb, returns, throws, assigns, evaluates, Waiting, parameter_type, result_type, declared_type, alias_type, cast_type, Frame, in_prefix, in_chain, in_last, in_branch, in_parens, in_row, in_index, in_field, in_arrow, in_body, in_simple, in_declaration, in_if_test, in_loop_test, in_if, in_else, in_loop, in_function, in_block, in_item, in_default, Mode, want, after_links, after_dot, row_start, fields_start, after_word, after_key, paren_start, paren_word, paren_mark, function_start, parameters_open, parameter_start, parameter_word, parameter_mark, parameters_end, arrow_start, settled, statements_start, after_binder, after_declared, after_return, after_simple, after_if, after_while, want_body, after_branch, after_else, items_start, after_type_word, after_alias, after_import, import_word, import_comma, names_start, after_name, after_as, after_pair, after_list, after_from, after_export, export_type, after_exports, exports_from, after_default, item_end, typing, Stack, Step, fault, go, done, done_items, start_ex, start_sig, start_simple, context}
use Rattle.code_law.specs.Expressions.{may_arrow, takes_function}
use Rattle.code_law.specs.Statements.{StatementWord, begins_function, plain_word, statement_word}
use Rattle.code_law.specs.Modules.{has_names}
use Rattle.code_law.proofs.Typing.{Typing}
use Rattle.code_law.proofs.Ladder.{tier_ex, floor}

abbrev pub import_token : TokenKind
import_token = Name (codes "import")

abbrev pub export_token : TokenKind
export_token = Name (codes "export")

abbrev pub default_token : TokenKind
default_token = Name (codes "default")

abbrev pub as_token : TokenKind
as_token = Name (codes "as")

abbrev pub if_token : TokenKind
if_token = Name (codes "if")

abbrev pub while_token : TokenKind
while_token = Name (codes "while")

abbrev pub function_token : TokenKind
function_token = Name (codes "function")

abbrev pub spell_row : Row → Tokens → Tokens
spell_row (array_row s) l = Punct OpenBracket ∷ l
spell_row (call_row b ls s) l = spell_ex b (spell_links ls (Punct OpenParen ∷ l))

abbrev pub spell_verb : Verb → Tokens → Tokens
spell_verb returns l = Name (codes "return") ∷ l
spell_verb throws l = Name (codes "throw") ∷ l
spell_verb (assigns a) l = spell_ex a (Punct Assign ∷ l)
spell_verb evaluates l = l

abbrev pub spell_wrap : Wrap → Tokens → Tokens
spell_wrap plain_item l = l
spell_wrap exported_item l = export_token ∷ l
spell_wrap default_item l = export_token ∷ default_token ∷ l

abbrev pub spell_owner : Owner → Tokens → Tokens
spell_owner of_arrow l = l
spell_owner (of_function q f n) l = function_token ∷ spell_name n l

abbrev pub spell_opening : Opening → Tokens → Tokens
spell_opening opens_names l = import_token ∷ l
spell_opening (opens_both n) l = import_token ∷ Name n ∷ Punct Comma ∷ l
spell_opening opens_types l = import_token ∷ type_word ∷ l
spell_opening (opens_exports o) l = export_token ∷ opt o type_word l

-- with a comma behind each
abbrev pub spell_begun_names : Names → Tokens → Tokens
spell_begun_names (importing ns) l = spell_begun_imports ns l
spell_begun_names (exporting ns) l = spell_begun_exports ns l

abbrev pub spell_names : Names → Tokens → Tokens
spell_names (importing ns) l = spell_importeds ns l
spell_names (exporting ns) l = spell_exporteds ns l

abbrev pub spell_listing : Listing → Tokens → Tokens
spell_listing (listing a is q s ns) l = spell_items is (spell_opening q (Punct OpenBrace ∷ spell_begun_names ns l))

abbrev pub spell_pair : Listing → Tokens → Tokens
spell_pair (listing a is q s ns) l = spell_items is (spell_opening q (Punct OpenBrace ∷ spell_names ns l))

-- what stands before `from`
abbrev pub spell_before : ImportForm → Tokens → Tokens
spell_before (import_default n) l = Name n ∷ l
spell_before (import_both n ns) l = Name n ∷ Punct Comma ∷ spell_import_list ns l
spell_before (import_names ns) l = spell_import_list ns l
spell_before (import_types ns) l = type_word ∷ spell_import_list ns l
spell_before import_only l = l

-- an item before its semicolon
abbrev pub spell_short : ItemForm → Tokens → Tokens
spell_short (imports m s) l = import_token ∷ spell_import m (Str s ∷ l)
spell_short (exports (export_from o ns s)) l = export_token ∷ opt o type_word (spell_export_list ns (from_word ∷ Str s ∷ l))
spell_short (exports (export_names o ns)) l = export_token ∷ opt o type_word (spell_export_list ns l)
spell_short x l = l

abbrev pub is_short : ItemForm → Bool
is_short (imports m s) = true
is_short (exports (export_from o ns s)) = true
is_short (exports (export_names o ns)) = true
is_short x = false

abbrev pub spell_waiting : Waiting → Tokens → Tokens
spell_waiting (parameter_type o s ps a n m) l = spell_owner o (Punct OpenParen ∷ spell_named ps (Name n ∷ opt m (Punct Question) (Punct Colon ∷ l)))
spell_waiting (result_type o s ps c) l = spell_owner o (Punct OpenParen ∷ spell_parameters ps (opt c (Punct Comma) (Punct CloseParen ∷ Punct Colon ∷ l)))
spell_waiting (declared_type s w n) l = Name (binder_word w) ∷ Name n ∷ Punct Colon ∷ l
spell_waiting (alias_type a w is p n) l = spell_items is (spell_wrap w (type_word ∷ Name n ∷ Punct Assign ∷ l))
spell_waiting (cast_type s e os d) l = spell_ex e (spell_operands os (as_token ∷ l))

abbrev pub spell_frame : Frame → Tokens → Tokens
spell_frame (in_prefix s ps) l = spell_prefixes ps l
spell_frame (in_chain s p f os d o) l = spell_ex f (spell_operands os (Punct (mark_of o) ∷ l))
spell_frame (in_last s hs) l = spell_arms hs l
spell_frame (in_branch s hs a) l = spell_arms hs (spell_ex a (Punct Question ∷ l))
spell_frame (in_parens s) l = Punct OpenParen ∷ l
spell_frame (in_row r es) l = spell_row r (spell_listed es l)
spell_frame (in_index b ls s) l = spell_ex b (spell_links ls (Punct OpenBracket ∷ l))
spell_frame (in_field s fs y) l = Punct OpenBrace ∷ spell_entries fs (spell_key y (Punct Colon ∷ l))
spell_frame (in_arrow g) l = spell_sig g (Punct ArrowMark ∷ l)
spell_frame (in_body g) l = spell_sig g (Punct ArrowMark ∷ l)
spell_frame (in_simple s v) l = spell_verb v l
spell_frame (in_declaration s w n a) l = Name (binder_word w) ∷ Name n ∷ spell_annotation a (Punct Assign ∷ l)
spell_frame (in_if_test s bs a) l = spell_elses bs (if_token ∷ Punct OpenParen ∷ l)
spell_frame (in_loop_test s) l = while_token ∷ Punct OpenParen ∷ l
spell_frame (in_if s bs a e) l = spell_elses bs (if_token ∷ Punct OpenParen ∷ spell_ex e (Punct CloseParen ∷ l))
spell_frame (in_else s bs) l = spell_elses bs l
spell_frame (in_loop s e) l = while_token ∷ Punct OpenParen ∷ spell_ex e (Punct CloseParen ∷ l)
spell_frame (in_function q s n g) l = function_token ∷ spell_name n (spell_sig g l)
spell_frame (in_block s ss) l = Punct OpenBrace ∷ spell_stmts ss l
spell_frame (in_item a w is) l = spell_items is (spell_wrap w l)
spell_frame (in_default a is) l = spell_items is (export_token ∷ default_token ∷ l)

abbrev pub spell_mode : Mode → Tokens → Tokens
spell_mode want l = l
spell_mode (after_links b ls) l = spell_ex b (spell_links ls l)
spell_mode (after_dot b ls d) l = spell_ex b (spell_links ls (Punct Dot ∷ l))
spell_mode (row_start r es) l = spell_row r (spell_listed es l)
spell_mode (fields_start s fs) l = Punct OpenBrace ∷ spell_entries fs l
spell_mode (after_word s fs a n) l = Punct OpenBrace ∷ spell_entries fs (Name n ∷ l)
spell_mode (after_key s fs y) l = Punct OpenBrace ∷ spell_entries fs (spell_key y l)
spell_mode (paren_start s) l = Punct OpenParen ∷ l
spell_mode (paren_word s a n) l = Punct OpenParen ∷ Name n ∷ l
spell_mode (paren_mark s a n p) l = Punct OpenParen ∷ Name n ∷ Punct Question ∷ l
spell_mode (function_start q s) l = function_token ∷ l
spell_mode (parameters_open o) l = spell_owner o l
spell_mode (parameter_start o s ps) l = spell_owner o (Punct OpenParen ∷ spell_named ps l)
spell_mode (parameter_word o s ps a n) l = spell_owner o (Punct OpenParen ∷ spell_named ps (Name n ∷ l))
spell_mode (parameter_mark o s ps a n) l = spell_owner o (Punct OpenParen ∷ spell_named ps (Name n ∷ Punct Question ∷ l))
spell_mode (parameters_end o s ps c) l = spell_owner o (Punct OpenParen ∷ spell_parameters ps (opt c (Punct Comma) (Punct CloseParen ∷ l)))
spell_mode (arrow_start g) l = spell_sig g (Punct ArrowMark ∷ l)
spell_mode (settled e) l = spell_ex e l
spell_mode (statements_start s ss) l = Punct OpenBrace ∷ spell_stmts ss l
spell_mode (after_binder s w) l = Name (binder_word w) ∷ l
spell_mode (after_declared s w n) l = Name (binder_word w) ∷ Name n ∷ l
spell_mode (after_return s) l = Name (codes "return") ∷ l
spell_mode (after_simple y) l = spell_simple y l
spell_mode (after_if s bs a) l = spell_elses bs (if_token ∷ l)
spell_mode (after_while s) l = while_token ∷ l
spell_mode want_body l = l
spell_mode (after_branch s bs) l = spell_branches bs l
spell_mode (after_else s bs) l = spell_elses bs l
spell_mode (items_start is) l = spell_items is l
spell_mode (after_type_word a is) l = spell_items is (type_word ∷ l)
spell_mode (after_alias a w is p n) l = spell_items is (spell_wrap w (type_word ∷ Name n ∷ l))
spell_mode (after_import a is) l = spell_items is (import_token ∷ l)
spell_mode (import_word a is n) l = spell_items is (import_token ∷ Name n ∷ l)
spell_mode (import_comma a is n) l = spell_items is (import_token ∷ Name n ∷ Punct Comma ∷ l)
spell_mode (names_start q) l = spell_listing q l
spell_mode (after_name q p n) l = spell_listing q (Name n ∷ l)
spell_mode (after_as q p n) l = spell_listing q (Name n ∷ as_token ∷ l)
spell_mode (after_pair q) l = spell_pair q l
spell_mode (after_list a is m) l = spell_items is (import_token ∷ spell_before m l)
spell_mode (after_from a is m) l = spell_items is (import_token ∷ spell_import m l)
spell_mode (after_export a is) l = spell_items is (export_token ∷ l)
spell_mode (export_type a is p) l = spell_items is (export_token ∷ type_word ∷ l)
spell_mode (after_exports a is o ns) l = spell_items is (export_token ∷ opt o type_word (spell_export_list ns l))
spell_mode (exports_from a is o ns) l = spell_items is (export_token ∷ opt o type_word (spell_export_list ns (from_word ∷ l)))
spell_mode (after_default a is) l = spell_items is (export_token ∷ default_token ∷ l)
spell_mode (item_end a is y) l = spell_items is (spell_short y l)
spell_mode (typing w a m) l = spell_waiting w (typed.so_far a m l)

-- What some frames ask of the first tokens above them.

abbrev pub not_brace : TokenKind → Bool
not_brace (Punct OpenBrace) = false
not_brace x = true

abbrev pub is_plain_word : StatementWord → Bool
is_plain_word plain_word = true
is_plain_word w = false

abbrev pub not_function_word : StatementWord → Bool
not_function_word begins_function = false
not_function_word w = true

abbrev pub not_function : TokenKind → Bool
not_function (Name n) = not_function_word (statement_word n)
not_function x = true

abbrev pub starts_plain : TokenKind → Bool
starts_plain (Name n) = is_plain_word (statement_word n)
starts_plain (Punct OpenBrace) = false
starts_plain x = true

-- the spelling begins with such a token, whatever follows
abbrev pub Opens : (TokenKind → Bool) → (Tokens → Tokens) → Type 0
Opens p s = (x : TokenKind) × (p x ≡ true) × ((l : Tokens) → (r : Tokens) × (s l ≡ x ∷ r))

abbrev pub Claim : Frame → (Tokens → Tokens) → Type 0
Claim (in_simple i evaluates) s = Opens starts_plain s
Claim (in_arrow g) s = Opens not_brace s
Claim (in_default a is) s = Opens not_function s
Claim (in_item a plain_item is) s = (l : Tokens) → begins_alias (s l) ≡ false
Claim f s = Unit {0}

-- the tokens q are the spelling of a stack, and of s above it; each frame's claim on what stands above it holds
abbrev pub Stands : Tokens → Stack → (Tokens → Tokens) → Type 0
Stands q [] s = (l : Tokens) → s l ≡ q ++ l
Stands q (f ∷ k) s = Claim f s × Stands q k (λ l. spell_frame f (s l))

-- What may stand under a frame.

abbrev pub takes_ex : Stack → Bool
takes_ex (in_prefix s ps ∷ k) = true
takes_ex (in_chain s p f os d o ∷ k) = true
takes_ex (in_last s hs ∷ k) = true
takes_ex (in_branch s hs a ∷ k) = true
takes_ex (in_parens s ∷ k) = true
takes_ex (in_row r es ∷ k) = true
takes_ex (in_index b ls s ∷ k) = true
takes_ex (in_field s fs y ∷ k) = true
takes_ex (in_arrow g ∷ k) = true
takes_ex (in_simple s v ∷ k) = true
takes_ex (in_declaration s w n a ∷ k) = true
takes_ex (in_if_test s bs a ∷ k) = true
takes_ex (in_loop_test s ∷ k) = true
takes_ex (in_default a is ∷ k) = true
takes_ex k = false

-- a statement
abbrev pub takes_statement : Stack → Bool
takes_statement (in_block s ss ∷ k) = true
takes_statement k = false

-- a body behind a test
abbrev pub takes_body : Stack → Bool
takes_body (in_if s bs a e ∷ k) = true
takes_body (in_loop s e ∷ k) = true
takes_body k = false

abbrev pub takes_block : Stack → Bool
takes_block (in_function q s n g ∷ k) = true
takes_block (in_body g ∷ k) = true
takes_block (in_block s ss ∷ k) = true
takes_block (in_if s bs a e ∷ k) = true
takes_block (in_else s bs ∷ k) = true
takes_block (in_loop s e ∷ k) = true
takes_block k = false

-- a simple statement, where the flag tells an assignment or an expression
abbrev pub takes_simple : Stack → Bool → Bool
takes_simple (in_block s ss ∷ k) b = true
takes_simple (in_if s bs a e ∷ k) b = true
takes_simple (in_else s bs ∷ k) b = true
takes_simple (in_loop s e ∷ k) b = true
takes_simple (in_item a plain_item is ∷ k) b = b
takes_simple k b = false

abbrev pub may_wrap : Wrap → Bool
may_wrap default_item = false
may_wrap w = true

abbrev pub takes_declaration : Stack → Bool
takes_declaration (in_block s ss ∷ k) = true
takes_declaration (in_item a w is ∷ k) = may_wrap w
takes_declaration k = false

abbrev pub is_default_wrap : Wrap → Bool
is_default_wrap default_item = true
is_default_wrap w = false

abbrev pub may_define : FunctionKind → Stack → Bool
may_define is_value k = takes_ex k
may_define is_statement k = takes_declaration k
may_define is_default (in_item a w is ∷ k) = is_default_wrap w
may_define is_default k = false

abbrev pub IsBottom : Stack → Type 0
IsBottom [] = Unit {0}
IsBottom (f ∷ k) = ⊥

abbrev pub place_row : Row → ℕ
place_row (array_row s) = s
place_row (call_row b ls s) = s

abbrev pub start_row : Row → ℕ
start_row (array_row s) = s
start_row (call_row b ls s) = start_ex b

abbrev pub start_wrapped : Wrap → ℕ → ℕ
start_wrapped plain_item a = a
start_wrapped exported_item a = suc a
start_wrapped default_item a = suc (suc a)

abbrev pub start_frame : Frame → ℕ
start_frame (in_prefix s ps) = s
start_frame (in_chain s p f os d o) = s
start_frame (in_last s hs) = s
start_frame (in_branch s hs a) = s
start_frame (in_parens s) = s
start_frame (in_row r es) = start_row r
start_frame (in_index b ls s) = start_ex b
start_frame (in_field s fs y) = s
start_frame (in_arrow g) = start_sig g
start_frame (in_body g) = start_sig g
start_frame (in_simple s v) = s
start_frame (in_declaration s w n a) = s
start_frame (in_if_test s bs a) = s
start_frame (in_loop_test s) = s
start_frame (in_if s bs a e) = s
start_frame (in_else s bs) = s
start_frame (in_loop s e) = s
start_frame (in_function q s n g) = s
start_frame (in_block s ss) = s
start_frame (in_item a w is) = 0
start_frame (in_default a is) = 0

-- an expression and its links, before the place i
abbrev pub FitsLinked : Ex → Links → ℕ → Type 0
FitsLinked b ls i = (primary_rank ≤ ex_rank b) × FitsEx b (start_ex b) × FitsLinks ls (stop_ex b (start_ex b)) × (i ≡ stop_links ls (stop_ex b (start_ex b)))

abbrev pub FitsRow : Row → Stack → Type 0
FitsRow (array_row s) k = takes_ex k ≡ true
FitsRow (call_row b ls s) k = (takes_ex k ≡ true) × FitsLinked b ls s

-- a chain so far, before the place d
abbrev pub FitsHead : Level → ℕ → Ex → Operands → ℕ → Type 0
FitsHead p s f os d = (operand_rank p ≤ ex_rank f) × FitsEx f s × FitsOperands os p (stop_ex f s) × (d ≡ stop_operands os (stop_ex f s))

abbrev pub is_top_verb : Verb → Bool
is_top_verb returns = false
is_top_verb throws = false
is_top_verb v = true

abbrev pub FitsVerb : Verb → Context → ℕ → ℕ → Type 0
FitsVerb returns c s i = InFunction c × (i ≡ suc s)
FitsVerb throws c s i = i ≡ suc s
FitsVerb (assigns a) c s i = (is_target a ≡ true) × BeginsPlain a × FitsEx a s × (i ≡ suc (stop_ex a s))
FitsVerb evaluates c s i = i ≡ s

-- the items before the place a
abbrev pub FitsTop : Stack → ℕ → Items → Type 0
FitsTop k a is = IsBottom k × FitsItems is 0 × (a ≡ stop_items is 0)

abbrev pub FitsNamed : FunctionKind → Option Bytes → Type 0
FitsNamed q n = FitsName n × (q ≡ is_statement → is_some n ≡ true)

-- The frame's tokens end at the place i.
abbrev pub FitsFrame : Frame → Stack → ℕ → Type 0
FitsFrame (in_prefix s ps) k i = (takes_ex k ≡ true) × (floor k ≤ 9) × (has_prefixes ps ≡ true) × FitsPrefixes ps s × (i ≡ stop_prefixes ps s)
FitsFrame (in_chain s p f os d o) k i = (takes_ex k ≡ true) × (floor k ≤ suc (rank p)) × FitsHead p s f os d × (level_of o ≡ p) × (i ≡ suc d)
FitsFrame (in_last s hs) k i = (takes_ex k ≡ true) × (floor k ≤ 0) × (has_arms hs ≡ true) × FitsArms hs s × (i ≡ stop_arms hs s)
FitsFrame (in_branch s hs a) k i =
    (takes_ex k ≡ true) × (floor k ≤ 0) × FitsArms hs s × (1 ≤ ex_rank a) × FitsEx a (stop_arms hs s) × (i ≡ suc (stop_ex a (stop_arms hs s)))
FitsFrame (in_parens s) k i = (takes_ex k ≡ true) × (i ≡ suc s)
FitsFrame (in_row r es) k i = FitsRow r k × FitsExs es (suc (place_row r)) × (i ≡ stop_listed es (suc (place_row r)))
FitsFrame (in_index b ls s) k i = (takes_ex k ≡ true) × FitsLinked b ls s × (i ≡ suc s)
FitsFrame (in_field s fs y) k i =
    (takes_ex k ≡ true) × FitsFields fs (suc s) × FitsKey y (stop_entries fs (suc s)) × (i ≡ suc (suc (stop_entries fs (suc s))))
FitsFrame (in_arrow g) k i = (takes_ex k ≡ true) × (floor k ≤ 1) × IsArrowSig g × FitsSig g (start_sig g) × (i ≡ suc (stop_sig g (start_sig g)))
FitsFrame (in_body g) k i = (takes_ex k ≡ true) × (floor k ≤ 1) × IsArrowSig g × FitsSig g (start_sig g) × (i ≡ suc (stop_sig g (start_sig g)))
FitsFrame (in_simple s v) k i = (takes_simple k (is_top_verb v) ≡ true) × FitsVerb v (context k) s i
FitsFrame (in_declaration s w n a) k i =
    (takes_declaration k ≡ true) × IsName n × FitsAnnotation a (suc (suc s)) × (i ≡ suc (stop_annotation a (suc (suc s))))
FitsFrame (in_if_test s bs a) k i = (takes_statement k ≡ true) × FitsBranches bs (context k) s × (a ≡ stop_elses bs s) × (i ≡ suc (suc a))
FitsFrame (in_loop_test s) k i = (takes_statement k ≡ true) × (i ≡ suc (suc s))
FitsFrame (in_if s bs a e) k i =
    (takes_statement k ≡ true) × FitsBranches bs (context k) s × (a ≡ stop_elses bs s) × FitsEx e (suc (suc a)) × (i ≡ suc (stop_ex e (suc (suc a))))
FitsFrame (in_else s bs) k i = (takes_statement k ≡ true) × (has_branches bs ≡ true) × FitsBranches bs (context k) s × (i ≡ stop_elses bs s)
FitsFrame (in_loop s e) k i = (takes_statement k ≡ true) × FitsEx e (suc (suc s)) × (i ≡ suc (stop_ex e (suc (suc s))))
FitsFrame (in_function q s n g) k i =
    (may_define q k ≡ true) × FitsNamed q n × FitsSig g (stop_name n (suc s)) × (i ≡ stop_sig g (stop_name n (suc s)))
FitsFrame (in_block s ss) k i = (takes_block k ≡ true) × FitsStmts ss (context k) (suc s) × (i ≡ stop_stmts ss (suc s))
FitsFrame (in_item a w is) k i = FitsTop k a is × (i ≡ start_wrapped w a)
FitsFrame (in_default a is) k i = FitsTop k a is × (i ≡ suc (suc a))

abbrev pub FitsStack : Stack → ℕ → Type 0
FitsStack [] i = i ≡ 0
FitsStack (f ∷ k) i = FitsFrame f k i × FitsStack k (start_frame f)

-- a whole expression that may stand under the stack, before the place i
abbrev pub FitsWhole : Stack → Ex → ℕ → Type 0
FitsWhole k e i = FitsStack k (start_ex e) × (takes_ex k ≡ true) × (floor k ≤ tier_ex e) × FitsEx e (start_ex e) × (i ≡ stop_ex e (start_ex e))

-- whose parameters begin at the parenthesis at s
abbrev pub FitsOwner : Owner → Stack → ℕ → Type 0
FitsOwner of_arrow k s = FitsStack k s × (takes_ex k ≡ true) × (may_arrow k ≡ true)
FitsOwner (of_function q f n) k s = FitsStack k f × (may_define q k ≡ true) × FitsNamed q n × (s ≡ stop_name n (suc f))

abbrev pub TypedFor : Owner → Parameters → Type 0
TypedFor of_arrow ps = AllTyped ps
TypedFor (of_function q f n) ps = Unit {0}

abbrev pub FitsGiven : Owner → Stack → ℕ → Parameters → Type 0
FitsGiven o k s ps = FitsOwner o k s × FitsParameters ps (suc s) × TypedFor o ps

abbrev pub FitsNames : Names → ℕ → Type 0
FitsNames (importing ns) i = FitsImporteds ns i
FitsNames (exporting ns) i = FitsExporteds ns i

abbrev pub FitsOpening : Opening → Names → ℕ → ℕ → Type 0
FitsOpening opens_names (importing ns) a s = s ≡ suc a
FitsOpening (opens_both n) (importing ns) a s = IsName n × (s ≡ suc (suc (suc a)))
FitsOpening opens_types (importing ns) a s = s ≡ suc (suc a)
FitsOpening (opens_exports o) (exporting ns) a s = s ≡ bump o (suc a)
FitsOpening q ns a s = ⊥

abbrev pub FitsListing : Stack → Listing → Type 0
FitsListing k (listing a is q s ns) = FitsTop k a is × FitsOpening q ns a s × FitsNames ns (suc s)

abbrev pub stop_begun_names : Names → ℕ → ℕ
stop_begun_names (importing ns) i = stop_begun_imports ns i
stop_begun_names (exporting ns) i = stop_begun_exports ns i

abbrev pub stop_names : Names → ℕ → ℕ
stop_names (importing ns) i = stop_importeds ns i
stop_names (exporting ns) i = stop_exporteds ns i

-- the places behind a list's names, with a comma behind the last or not
abbrev pub begun_end : Listing → ℕ
begun_end (listing a is q s ns) = stop_begun_names ns (suc s)

abbrev pub names_end : Listing → ℕ
names_end (listing a is q s ns) = stop_names ns (suc s)

abbrev pub stop_before : ImportForm → ℕ → ℕ
stop_before (import_default n) i = suc i
stop_before (import_both n ns) i = stop_import_list ns (suc (suc i))
stop_before (import_names ns) i = stop_import_list ns i
stop_before (import_types ns) i = stop_import_list ns (suc i)
stop_before import_only i = i

abbrev pub imports_names : ImportForm → Bool
imports_names import_only = false
imports_names m = true

abbrev pub FitsAliasAt : Stack → ℕ → Wrap → Items → ℕ → Bytes → Type 0
FitsAliasAt k a w is p n = FitsTop k a is × (may_wrap w ≡ true) × (p ≡ start_wrapped w a) × IsName n × IsNoneOf base_names n

abbrev pub FitsWaiting : Stack → Waiting → Type 0
FitsWaiting k (parameter_type o s ps a n m) = FitsGiven o k s ps × (a ≡ stop_named ps (suc s)) × IsName n
FitsWaiting k (result_type o s ps c) = FitsGiven o k s ps × CommaFits c (has_parameters ps)
FitsWaiting k (declared_type s w n) = FitsStack k s × (takes_declaration k ≡ true) × IsName n
FitsWaiting k (alias_type a w is p n) = FitsAliasAt k a w is p n
FitsWaiting k (cast_type s e os d) = FitsStack k s × (takes_ex k ≡ true) × (floor k ≤ suc (rank relation_level)) × FitsHead relation_level s e os d

-- where the type begins
abbrev pub type_start : Waiting → ℕ
type_start (parameter_type o s ps a n m) = suc (bump m (suc a))
type_start (result_type o s ps c) = suc (suc (bump c (stop_parameters ps (suc s))))
type_start (declared_type s w n) = suc (suc (suc s))
type_start (alias_type a w is p n) = suc (suc (suc p))
type_start (cast_type s e os d) = suc d

-- The state's tokens end at the place i.
abbrev pub FitsMode : Stack → Mode → ℕ → Type 0
FitsMode k want i = FitsStack k i × (takes_ex k ≡ true)
FitsMode k (after_links b ls) i = FitsStack k (start_ex b) × (takes_ex k ≡ true) × FitsLinked b ls i
FitsMode k (after_dot b ls d) i = FitsStack k (start_ex b) × (takes_ex k ≡ true) × FitsLinked b ls d × (i ≡ suc d)
FitsMode k (row_start r es) i = FitsStack k (start_row r) × FitsRow r k × FitsExs es (suc (place_row r)) × (i ≡ stop_listed es (suc (place_row r)))
FitsMode k (fields_start s fs) i = FitsStack k s × (takes_ex k ≡ true) × FitsFields fs (suc s) × (i ≡ stop_entries fs (suc s))
FitsMode k (after_word s fs a n) i = FitsStack k s × (takes_ex k ≡ true) × FitsFields fs (suc s) × (a ≡ stop_entries fs (suc s)) × (i ≡ suc a)
FitsMode k (after_key s fs y) i = FitsStack k s × (takes_ex k ≡ true) × FitsFields fs (suc s) × FitsKey y (stop_entries fs (suc s)) × (i ≡ suc (stop_entries fs (suc s)))
FitsMode k (paren_start s) i = FitsStack k s × (takes_ex k ≡ true) × (i ≡ suc s)
FitsMode k (paren_word s a n) i = FitsStack k s × (takes_ex k ≡ true) × (a ≡ suc s) × IsName n × (i ≡ suc a)
FitsMode k (paren_mark s a n p) i = FitsStack k s × (takes_ex k ≡ true) × (a ≡ suc s) × IsName n × (p ≡ suc a) × (i ≡ suc p)
FitsMode k (function_start q s) i = FitsStack k s × (may_define q k ≡ true) × (i ≡ suc s)
FitsMode k (parameters_open o) i = FitsOwner o k i
FitsMode k (parameter_start o s ps) i = FitsGiven o k s ps × (i ≡ stop_named ps (suc s))
FitsMode k (parameter_word o s ps a n) i = FitsGiven o k s ps × (a ≡ stop_named ps (suc s)) × IsName n × (i ≡ suc a)
FitsMode k (parameter_mark o s ps a n) i = FitsGiven o k s ps × (a ≡ stop_named ps (suc s)) × IsName n × (i ≡ suc (suc a))
FitsMode k (parameters_end o s ps c) i = FitsGiven o k s ps × CommaFits c (has_parameters ps) × (i ≡ suc (bump c (stop_parameters ps (suc s))))
FitsMode k (arrow_start g) i =
    FitsStack k (start_sig g) × (takes_ex k ≡ true) × (may_arrow k ≡ true) × IsArrowSig g × FitsSig g (start_sig g) × (i ≡ suc (stop_sig g (start_sig g)))
FitsMode k (settled e) i = FitsWhole k e i
FitsMode k (statements_start s ss) i = FitsStack k s × (takes_block k ≡ true) × FitsStmts ss (context k) (suc s) × (i ≡ stop_stmts ss (suc s))
FitsMode k (after_binder s w) i = FitsStack k s × (takes_declaration k ≡ true) × (i ≡ suc s)
FitsMode k (after_declared s w n) i = FitsStack k s × (takes_declaration k ≡ true) × IsName n × (i ≡ suc (suc s))
FitsMode k (after_return s) i = FitsStack k s × (takes_simple k false ≡ true) × InFunction (context k) × (i ≡ suc s)
FitsMode k (after_simple y) i =
    FitsStack k (start_simple y) × (takes_simple k false ≡ true) × FitsSimple y (context k) (start_simple y) × (i ≡ stop_simple y (start_simple y))
FitsMode k (after_if s bs a) i = FitsStack k s × (takes_statement k ≡ true) × FitsBranches bs (context k) s × (a ≡ stop_elses bs s) × (i ≡ suc a)
FitsMode k (after_while s) i = FitsStack k s × (takes_statement k ≡ true) × (i ≡ suc s)
FitsMode k want_body i = FitsStack k i × (takes_body k ≡ true)
FitsMode k (after_branch s bs) i =
    FitsStack k s × (takes_statement k ≡ true) × (has_branches bs ≡ true) × FitsBranches bs (context k) s × (i ≡ stop_branches bs s)
FitsMode k (after_else s bs) i = FitsStack k s × (takes_statement k ≡ true) × (has_branches bs ≡ true) × FitsBranches bs (context k) s × (i ≡ stop_elses bs s)
FitsMode k (items_start is) i = FitsTop k i is
FitsMode k (after_type_word a is) i = FitsTop k a is × (i ≡ suc a)
FitsMode k (after_alias a w is p n) i = FitsAliasAt k a w is p n × (i ≡ suc (suc p))
FitsMode k (after_import a is) i = FitsTop k a is × (i ≡ suc a)
FitsMode k (import_word a is n) i = FitsTop k a is × IsName n × (i ≡ suc (suc a))
FitsMode k (import_comma a is n) i = FitsTop k a is × IsName n × (i ≡ suc (suc (suc a)))
FitsMode k (names_start q) i = FitsListing k q × (i ≡ begun_end q)
FitsMode k (after_name q p n) i = FitsListing k q × (p ≡ begun_end q) × (i ≡ suc p)
FitsMode k (after_as q p n) i = FitsListing k q × (p ≡ begun_end q) × (i ≡ suc (suc p))
FitsMode k (after_pair q) i = FitsListing k q × (has_names q ≡ true) × (i ≡ names_end q)
FitsMode k (after_list a is m) i = FitsTop k a is × FitsImport m (suc a) × (imports_names m ≡ true) × (i ≡ stop_before m (suc a))
FitsMode k (after_from a is m) i = FitsTop k a is × FitsImport m (suc a) × (imports_names m ≡ true) × (i ≡ stop_import m (suc a))
FitsMode k (after_export a is) i = FitsTop k a is × (i ≡ suc a)
FitsMode k (export_type a is p) i = FitsTop k a is × (p ≡ suc a) × (i ≡ suc p)
FitsMode k (after_exports a is o ns) i = FitsTop k a is × FitsExportList ns (bump o (suc a)) × (i ≡ stop_export_list ns (bump o (suc a)))
FitsMode k (exports_from a is o ns) i = FitsTop k a is × FitsExportList ns (bump o (suc a)) × (i ≡ suc (stop_export_list ns (bump o (suc a))))
FitsMode k (after_default a is) i = FitsTop k a is × (i ≡ suc (suc a))
FitsMode k (item_end a is y) i = FitsTop k a is × (is_short y ≡ true) × FitsItemForm y a × (suc i ≡ stop_item_form y a)
FitsMode k (typing w a m) i = FitsWaiting k w × (q : Tokens) × Typing (takes_function w) (type_start w) i a m q

-- the items are all that the tokens q are
abbrev pub AreRead : Tokens → Items → ℕ → Type 0
AreRead q is i = FitsItems is 0 × (i ≡ stop_items is 0) × ((l : Tokens) → spell_items is l ≡ q ++ l)

-- A step at the place i, whose token comes behind the tokens q; p are q and the token.
abbrev pub FitsStep : Tokens → Tokens → ℕ → Step → Type 0
FitsStep q p i fault = Unit {0}
FitsStep q p i (go k m) = FitsMode k m (suc i) × Stands p k (spell_mode m)
FitsStep q p i (done e) = ⊥
FitsStep q p i (done_items is) = AreRead q is i
