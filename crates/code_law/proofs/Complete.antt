-- Each expression's spelling is read as that expression, where a token follows that doesn't go on it.
use Rattle.std.proofs.Common.{◌≡◌, refl, sym, ◌∙◌, ap, ap₂, ℕ, suc, ◌≤◌, Bool, true, false, Option, Some, None, [], ◌∷◌, codes, arith}
use Rattle.std.proofs.lemmas.Bool.{false≢true, true≢false}
use Rattle.js_token.specs.declared.token.TokenKind.{TokenKind}
use Rattle.js_token.specs.declared.token.TokenKind.TheVariants.{Name, Punct}
use Rattle.js_token.specs.declared.punct.Punct.TheVariants.{OpenBrace, OpenParen, Semicolon, Assign, CloseBrace, CloseParen, CloseBracket, Comma, Colon, Question}
use Rattle.js_grammar.specs.Words.{Bytes, IsName}
use Rattle.js_grammar.specs.Types.{word_key, text_key, Key, key, Ty}
use Rattle.js_grammar.specs.TypeSpelling.{Tokens, opt, spell, spell_key}
use Rattle.js_grammar.specs.TypeFits.{bump, stop, FitsKey, CommaFits}
use Rattle.js_grammar.specs.Machine.{first}
use Rattle.js_grammar.specs.Code.{Prefix, negation, minus_sign, plus_sign, kind_of, Prefixes, no_prefix, more_prefix, Level, relation_level, rank, operand_rank, level_of, Operator, Binder, const, let_word, Sig, sig, primary_rank, Ex, ex, ExForm, variable, number, text, truth_value, null_value, parens, elements, fields, function_ex, postfixed, prefixed, chain, cond, arrow, Exs, no_ex, more_ex, Link, link, LinkForm, member, index, call, Links, no_link, more_link, operand, right_side, as_type, Operands, no_operand, more_operand, Field, field, shorthand, valued, Fields, no_field, more_field, arm, Arms, no_arm, more_arm, Function, function, arrow_block, arrow_value, Block, block, Stmts, no_stmt, more_stmt, Stmt, stmt, StmtForm, declares, function_stmt, does, branches, loop, nested, Declaration, declaration, Simple, simple, SimpleForm, return_bare, return_value, throw_value, break_loop, continue_loop, assign, evaluate, Body, block_body, simple_body, Branch, branch, Branches, no_branch, more_branch, Else, no_else, else_body, has_exs, has_fields, has_branches, form_rank, ex_rank, is_cond, is_target}
use Rattle.js_grammar.specs.CodeSpelling.{mark_of, prefix_token, binder_word, spell_prefixes, spell_annotation, spell_name, spell_sig, spell_ex, spell_ex_form, spell_exs, spell_listed, spell_link, spell_link_form, spell_links, spell_operands, spell_field, spell_fields, spell_entries, spell_arms, spell_block, spell_stmts, spell_stmt, spell_stmt_form, spell_simple, spell_simple_form, spell_body, spell_branch, spell_branches, spell_elses, spell_else}
use Rattle.js_grammar.specs.CodePlaces.{stop_prefixes, stop_annotation, stop_name, stop_sig, stop_ex, stop_ex_form, stop_exs, stop_listed, stop_link, stop_link_form, stop_links, stop_operands, stop_field, stop_fields, stop_entries, stop_arms, stop_function, stop_declaration, stop_stmts, stop_stmt, stop_stmt_form, stop_simple, stop_simple_form, stop_body, stop_branch, stop_branches, stop_elses, stop_else}
use Rattle.js_grammar.specs.CodeFits.{Context, inside, looping, body_context, InFunction, InLoop, FitsPrefixes, FitsAnnotation, FitsEx, FitsExForm, FitsExs, FitsLink, FitsLinkForm, FitsLinks, FitsOperands, FitsField, FitsFields, FitsArms, FitsSig, IsNamed, FitsFunction, FitsDeclaration, FitsStmts, FitsStmt, FitsStmtForm, FitsSimple, FitsSimpleForm, FitsBody, FitsBranch, FitsBranches, FitsElse}
use Rattle.code_law.specs.Frames.{FunctionKind, is_value, is_statement, Row, array_row, call_row, returns, throws, assigns, evaluates, cast_type, declared_type, in_prefix, in_chain, in_last, in_branch, in_parens, in_row, in_index, in_field, in_arrow, in_body, in_simple, in_declaration, in_if_test, in_loop_test, in_if, in_else, in_loop, in_function, in_block, Mode, want, after_links, row_start, fields_start, after_word, function_start, settled, statements_start, after_binder, after_declared, after_return, after_simple, want_body, after_branch, after_else, Stack, Step, go, start_ex, start_sig, start_key, context, within_function, within_loop}
use Rattle.code_law.specs.Bodies.{give_body, give_declaration, give_function, end_simple}
use Rattle.code_law.specs.Ladder.{Joint, applies, casts, joins, ends, turn, joint_level, ask, begin, open_chain, join, settle_at, settle, close_row, close_fields, after_field}
use Rattle.code_law.specs.Expressions.{marked, linked, field_step}
use Rattle.code_law.specs.Statements.{simple_step, statements_step, is_else, branch_step}
use Rattle.code_law.specs.Machine.{step, resume, run, go_on}
use Rattle.code_law.proofs.Ladder.{hold, tier, tier_ex, floor, rank_below, rank_most, tier_least, tier_of, turn_mark, open_first, open_more, join_opens, chain_ends, prefix_ends, last_ends, arrow_ends, ask_first, may_ask, arrow_stands, links_end, type_ends}
use Rattle.code_law.proofs.Embedded.{c_type}
use Rattle.code_law.proofs.Begins.{begin_item, begin_body, begin_parens}
use Rattle.code_law.proofs.Parameters.{c_sig, c_function_sig}
use Rattle.code_law.proofs.Statements.{TakesSimple, takes_statement, begins_simple, TakesBody, body_taken, else_taken, begin_evaluate, begin_return, stmt_else}

pub run-then : (i : ℕ) (k : Stack) (m : Mode) (l : Tokens) → run i k m l ≡ go_on i (step i k m (first l)) l
run-then i k m [] = refl
run-then i k m (x ∷ l) = refl

start-of : (e : Ex) (i : ℕ) → FitsEx e i → start_ex e ≡ i
start-of (ex f t x) i h = h.0

-- an expression is read, and then settled with the token behind it
abbrev Reads : Ex → ℕ → Stack → Type 0
Reads e i k = (l : Tokens) → hold (turn (first l)) ≤ ex_rank e → run i k want (spell_ex e l) ≡ go_on (stop_ex e i) (settle (stop_ex e i) k e (first l)) l

abbrev Settles : ExForm → ℕ → Stack → Type 0
Settles x i k = (l : Tokens) → hold (turn (first l)) ≤ form_rank x →
    run i k want (spell_ex_form x l) ≡ go_on (stop_ex_form x i) (settle (stop_ex_form x i) k (ex i (stop_ex_form x i) x) (first l)) l

-- links may follow
abbrev IsPrimary : ExForm → ℕ → Stack → Type 0
IsPrimary x i k = (l : Tokens) → run i k want (spell_ex_form x l) ≡ run (stop_ex_form x i) k (after_links (ex i (stop_ex_form x i) x) no_link) l

abbrev ReadsForm : ExForm → ℕ → Stack → Type 0
ReadsForm (postfixed e ls) i k = Settles (postfixed e ls) i k
ReadsForm (prefixed ps e) i k = Settles (prefixed ps e) i k
ReadsForm (chain p e os) i k = Settles (chain p e os) i k
ReadsForm (cond hs e) i k = Settles (cond hs e) i k
ReadsForm (arrow g b) i k = Settles (arrow g b) i k
ReadsForm x i k = IsPrimary x i k

links_settle : (i : ℕ) (k : Stack) (b : Ex) (ls : Links) (l : Tokens) → hold (turn (first l)) ≤ 10 → run i k (after_links b ls) l ≡ go_on i (settle i k (linked i b ls) (first l)) l
links_settle i k b ls l h = run-then i k (after_links b ls) l ∙ ap (λ s. go_on i s l) (links_end (first l) i k b ls h)

primary_settles : (x : ExForm) (i : ℕ) (k : Stack) → form_rank x ≡ primary_rank → IsPrimary x i k → Settles x i k
primary_settles x i k r h l s = h l ∙ links_settle (stop_ex_form x i) k (ex i (stop_ex_form x i) x) no_link l (let q : form_rank x ≡ 10 = r in omega arith)

form_settles : (x : ExForm) (i : ℕ) (k : Stack) → ReadsForm x i k → Settles x i k
form_settles (postfixed e ls) i k h = h
form_settles (prefixed ps e) i k h = h
form_settles (chain p e os) i k h = h
form_settles (cond hs e) i k h = h
form_settles (arrow g b) i k h = h
form_settles x i k h = primary_settles x i k refl h

form_primary : (x : ExForm) (i : ℕ) (k : Stack) → primary_rank ≤ form_rank x → ReadsForm x i k → IsPrimary x i k
form_primary (postfixed e ls) i k r h = absurd (omega arith)
form_primary (prefixed ps e) i k r h = absurd (omega arith)
form_primary (chain p e os) i k r h = absurd (let q = rank_most p in omega arith)
form_primary (cond hs e) i k r h = absurd (omega arith)
form_primary (arrow g b) i k r h = absurd (omega arith)
form_primary x i k r h = h

-- prefixes

abbrev with_prefixes : ℕ → Prefixes → Stack → Stack
with_prefixes s no_prefix k = k
with_prefixes s (more_prefix ps p x) k = in_prefix s (more_prefix ps p x) ∷ k

prefix_read : (x : Prefix) (i : ℕ) (k : Stack) (l : Tokens) → run i k want (prefix_token x ∷ l) ≡ run (suc i) (marked i x k) want l
prefix_read negation i k l = refl
prefix_read minus_sign i k l = refl
prefix_read plus_sign i k l = refl
prefix_read kind_of i k l = refl

marked_first : (k : Stack) (i : ℕ) (x : Prefix) → floor k ≤ 9 → marked i x k ≡ in_prefix i (more_prefix no_prefix i x) ∷ k
marked_first (in_prefix s ps ∷ k) i x h = absurd (omega arith)
marked_first k i x h = refl

marked_more : (ps : Prefixes) (s i : ℕ) (x : Prefix) (k : Stack) → floor k ≤ 9 → i ≡ stop_prefixes ps s → marked i x (with_prefixes s ps k) ≡ in_prefix s (more_prefix ps i x) ∷ k
marked_more no_prefix s i x k h e = marked_first k i x h ∙ ap (λ s. in_prefix s (more_prefix no_prefix i x) ∷ k) e
marked_more (more_prefix ps p y) s i x k h e = refl

prefixes_run : (ps : Prefixes) (i : ℕ) → FitsPrefixes ps i → (k : Stack) → floor k ≤ 9 → (l : Tokens) → run i k want (spell_prefixes ps l) ≡ run (stop_prefixes ps i) (with_prefixes i ps k) want l
prefixes_run no_prefix i h k f l = refl
prefixes_run (more_prefix ps p x) i h k f l =
    let j = stop_prefixes ps i in
    prefixes_run ps i (h.0) k f (prefix_token x ∷ l) ∙ prefix_read x j (with_prefixes i ps k) l
    ∙ ap (λ k. run (suc j) k want l) (marked_more ps i j x k f refl ∙ ap (λ p. in_prefix i (more_prefix ps p x) ∷ k) (sym (h.1)))

-- chains

-- a chain of operands, or the first expression alone
abbrev built : ℕ → ℕ → Level → Ex → Operands → Ex
built i j p e no_operand = e
built i j p e (more_operand os o) = ex i j (chain p e (more_operand os o))

next_operand : (os : Operands) (p : Level) (e : Ex) (i j : ℕ) (k : Stack) (w : Joint) (x : TokenKind) → turn x ≡ joins w → joint_level w ≡ p → operand_rank p ≤ ex_rank e → start_ex e ≡ i → floor k ≤ suc (rank p) →
    settle j k (built i j p e os) x ≡ begin j k i p e os w
next_operand os p e i j k w x tw lw r s f =
    ap (λ c. settle_at j k (built i j p e os) c x) tw ∙ ap (λ q. join j k (built i j p e os) q w) lw ∙ join_opens j k (built i j p e os) p w f ∙ opened os
  where
    opened : (os : Operands) → open_chain j k (built i j p e os) p w ≡ begin j k i p e os w
    opened no_operand = open_first j k e p w r ∙ ap (λ s. begin j k s p e no_operand w) s
    opened (more_operand os o) = open_more j k i j e (more_operand os o) p w

abbrev as_token : TokenKind
as_token = Name (codes "as")

mark_holds : (o : Operator) (p : Level) → level_of o ≡ p → hold (turn (Punct (mark_of o))) ≤ suc (rank p)
mark_holds o p e = rw (turn_mark o, e) (let n = rank p in let z : suc n ≤ suc n = omega arith in z)

as_holds : (p : Level) → p ≡ relation_level → hold (turn as_token) ≤ suc (rank p)
as_holds p e = rw e (let z : 6 ≤ 6 = omega arith in z)

-- rows

abbrev closer : Row → TokenKind
closer (array_row s) = Punct CloseBracket
closer (call_row b ls s) = Punct CloseParen

closer_ends : (r : Row) (n : ℕ) → hold (turn (closer r)) ≤ n
closer_ends (array_row s) n = omega arith
closer_ends (call_row b ls s) n = omega arith

item_comma : (r : Row) (i : ℕ) (k : Stack) (es : Exs) (e : Ex) → settle i (in_row r es ∷ k) e (Punct Comma) ≡ go k (row_start r (more_ex es e))
item_comma (array_row s) i k es e = refl
item_comma (call_row b ls s) i k es e = refl

item_close : (r : Row) (i : ℕ) (k : Stack) (es : Exs) (e : Ex) → settle i (in_row r es ∷ k) e (closer r) ≡ go k (close_row i r (more_ex es e) false)
item_close (array_row s) i k es e = refl
item_close (call_row b ls s) i k es e = refl

row_close : (r : Row) (i : ℕ) (k : Stack) (es : Exs) (l : Tokens) → run i k (row_start r es) (closer r ∷ l) ≡ run (suc i) k (close_row i r es (has_exs es)) l
row_close (array_row s) i k es l = refl
row_close (call_row b ls s) i k es l = refl

-- objects

abbrev ends_field : TokenKind → Bool
ends_field (Punct Comma) = true
ends_field (Punct CloseBrace) = true
ends_field _ = false

ends-turn : (x : TokenKind) → ends_field x ≡ true → turn x ≡ ends
ends-turn (Punct Comma) h = refl
ends-turn (Punct CloseBrace) h = refl
ends-turn x h = absurd (false≢true h)

ends-hold : (x : TokenKind) → ends_field x ≡ true → (n : ℕ) → hold (turn x) ≤ n
ends-hold x h n = rw (ends-turn x h) (let z : 0 ≤ n = omega arith in z)

name_ends : (x : TokenKind) → ends_field x ≡ true → (i : ℕ) (k : Stack) (s : ℕ) (fs : Fields) (a : ℕ) (n : Bytes) → IsName n → field_step i k s fs a n x ≡ after_field i k s (more_field fs (field a i (shorthand n))) x
name_ends (Punct Colon) e i k s fs a n h = absurd (false≢true e)
name_ends x e i k s fs a n h = rw h refl

key_read : (y : Key) (i : ℕ) → FitsKey y i → (k : Stack) (s : ℕ) (fs : Fields) (l : Tokens) → run i k (fields_start s fs) (spell_key y (Punct Colon ∷ l)) ≡ run (suc (suc i)) (in_field s fs y ∷ k) want l
key_read (key f t (word_key n)) i h k s fs l = ap (λ y. run (suc (suc i)) (in_field s fs y ∷ k) want l) (ap₂ (λ f t. key f t (word_key n)) (sym (h.0)) (sym (h.1)))
key_read (key f t (text_key n)) i h k s fs l = ap (λ y. run (suc (suc i)) (in_field s fs y ∷ k) want l) (ap₂ (λ f t. key f t (text_key n)) (sym (h.0)) (sym (h.1)))

start-key : (y : Key) (i : ℕ) → FitsKey y i → start_key y ≡ i
start-key (key f t y) i h = h.0

-- conditionals

abbrev with_arms : ℕ → Arms → Stack → Stack
with_arms s no_arm k = k
with_arms s (more_arm hs a) k = in_last s (more_arm hs a) ∷ k

floor_arms : (hs : Arms) (s : ℕ) (k : Stack) (e : Ex) → floor k ≤ 0 → 1 ≤ ex_rank e → floor (with_arms s hs k) ≤ tier_ex e
floor_arms no_arm s k e f h = omega arith
floor_arms (more_arm hs a) s k e f h = let t = tier_least e in omega arith

ask_arms : (hs : Arms) (s i : ℕ) (k : Stack) (e : Ex) → floor k ≤ 0 → 1 ≤ ex_rank e → start_ex e ≡ stop_arms hs s → ask i (with_arms s hs k) e ≡ go (in_branch s hs e ∷ k) want
ask_arms no_arm s i k e f r h = ask_first i k e f r ∙ ap (λ s. go (in_branch s no_arm e ∷ k) want) h
ask_arms (more_arm hs a) s i k e f r h = may_ask k s (more_arm hs a) e r

last_tier : (e : Ex) → is_cond e ≡ false → 1 ≤ tier_ex e
last_tier (ex f t (cond hs e)) h = absurd (true≢false h)
last_tier (ex f t x) h = omega arith

start-sig : (g : Sig) (i : ℕ) → FitsSig g i → start_sig g ≡ i
start-sig (sig f t ps c r) i h = h.0

truth_read : (b : Bool) (i : ℕ) (k : Stack) → IsPrimary (truth_value b) i k
truth_read true i k l = refl
truth_read false i k l = refl

variable_read : (n : Bytes) → IsName n → (i : ℕ) (k : Stack) → IsPrimary (variable n) i k
variable_read n h i k l = rw h refl

-- functions and statements

abbrev pub behind : Function → Tokens → Tokens
behind (function f t n g b) l = spell_name n (spell_sig g (spell_block b l))

abbrev is_a_value : FunctionKind → Bool
is_a_value is_value = true
is_a_value q = false

pub value_statement : is_value ≡ is_statement → ⊥
value_statement e = true≢false (ap is_a_value e)

same_function : (n : Option Bytes) (g : Sig) (f a t e : ℕ) (b d : Block) → f ≡ a → t ≡ e → b ≡ d → function f t n g b ≡ function a e n g d
same_function n g f a t e b d p q r = cc

abbrev pub behind_binder : Declaration → Tokens → Tokens
behind_binder (declaration f t w n v e) l = Name n ∷ spell_annotation v (Punct Assign ∷ spell_ex e l)

abbrev pub binder_of : Declaration → Binder
binder_of (declaration f t w n v e) = w

binder_read : (w : Binder) (i s : ℕ) (ss : Stmts) (k : Stack) (l : Tokens) → run i k (statements_start s ss) (Name (binder_word w) ∷ l) ≡ run (suc i) (in_block s ss ∷ k) (after_binder i w) l
binder_read const i s ss k l = refl
binder_read let_word i s ss k l = refl

name_declared : (w : Binder) (n : Bytes) → IsName n → (i j : ℕ) (k : Stack) (l : Tokens) → run j k (after_binder i w) (Name n ∷ l) ≡ run (suc j) k (after_declared i w n) l
name_declared w n h i j k l = rw h refl

annotation_read : (v : Option Ty) (w : Binder) (n : Bytes) (i j : ℕ) → FitsAnnotation v j → (k : Stack) (l : Tokens) →
    run j k (after_declared i w n) (spell_annotation v (Punct Assign ∷ l)) ≡ run (suc (stop_annotation v j)) (in_declaration i w n v ∷ k) want l
annotation_read None w n i j h k l = refl
annotation_read (Some t) w n i j h k l = c_type (suc j) k (declared_type i w n) t h (λ g. refl) (Punct Assign ∷ l) refl

simple_read : (n : Bytes) (i : ℕ) (k : Stack) (m : Mode) (a : Stack) → TakesSimple i k m a → (l : Tokens) → begins_simple (Name n) ≡ true →
    run i k m (Name n ∷ l) ≡ resume (λ k m. run (suc i) k m l) (simple_step i a (Name n)) (Name n ∷ l)
simple_read n i k m a w l h = ap (λ s. resume (λ k m. run (suc i) k m l) s (Name n ∷ l)) (w (Name n) h)

pub target_read : (d : Ex) → is_target d ≡ true → (i z : ℕ) (k : Stack) (l : Tokens) →
    go_on z (settle z (in_simple i evaluates ∷ k) d (Punct Assign)) (Punct Assign ∷ l) ≡ run (suc z) (in_simple i (assigns d) ∷ k) want l
target_read d h i z k l = rw h refl

within_is : (c : Context) → InFunction c → within_function c ≡ true
within_is (inside f l) h = h

loop_is : (c : Context) → InLoop c → within_loop c ≡ true
loop_is (inside f l) h = h

returned : (i : ℕ) (a : Stack) (c : Context) → context a ≡ c → InFunction c → (l : Tokens) →
    resume (λ k m. run (suc i) k m l) (simple_step i a (Name (codes "return"))) (Name (codes "return") ∷ l) ≡ run (suc i) a (after_return i) l
returned i a c u h l = rw (ap within_function u ∙ within_is c h) refl

abbrev jump_word : SimpleForm → Bytes
jump_word break_loop = codes "break"
jump_word x = codes "continue"

abbrev is_jump : SimpleForm → Bool
is_jump break_loop = true
is_jump continue_loop = true
is_jump x = false

left : (x : SimpleForm) → is_jump x ≡ true → (i : ℕ) (a : Stack) (c : Context) → context a ≡ c → InLoop c → (l : Tokens) →
    resume (λ k m. run (suc i) k m l) (simple_step i a (Name (jump_word x))) (Name (jump_word x) ∷ l) ≡ run (suc i) a (after_simple (simple i (suc i) x)) l
left break_loop j i a c u h l = rw (ap within_loop u ∙ loop_is c h) refl
left continue_loop j i a c u h l = rw (ap within_loop u ∙ loop_is c h) refl
left x j i a c u h l = absurd (false≢true j)

-- what a further branch is read under, and by which mode
abbrev under : Branches → ℕ → Stmts → Stack → Stack
under no_branch s ss k = k
under (more_branch bs b) s ss k = in_block s ss ∷ k

abbrev awaits : Branches → ℕ → ℕ → Stmts → Mode
awaits no_branch i s ss = statements_start s ss
awaits (more_branch bs b) i s ss = after_else i (more_branch bs b)

-- the last token of a body
abbrev pub body_end : Body → TokenKind
body_end (block_body b) = Punct CloseBrace
body_end (simple_body y) = Punct Semicolon

if_read : (bs : Branches) (i j : ℕ) → j ≡ stop_elses bs i → (s : ℕ) (ss : Stmts) (k : Stack) (l : Tokens) →
    run j (under bs s ss k) (awaits bs i s ss) (Name (codes "if") ∷ Punct OpenParen ∷ l) ≡ run (suc (suc j)) (in_if_test i bs j ∷ in_block s ss ∷ k) want l
if_read no_branch i j q s ss k l = ap (λ i. run (suc (suc j)) (in_if_test i no_branch j ∷ in_block s ss ∷ k) want l) q
if_read (more_branch bs b) i j q s ss k l = refl

no_more : (x : TokenKind) → is_else x ≡ false → (j s : ℕ) (ss : Stmts) (k : Stack) (i : ℕ) (bs : Branches) →
    branch_step j (in_block s ss ∷ k) i bs x ≡ statements_step j k s (more_stmt ss (stmt i j (branches bs no_else))) x
no_more x e j s ss k i bs = rw e refl

mutual
  pub c_ex : (e : Ex) (i : ℕ) → FitsEx e i → (k : Stack) → floor k ≤ tier_ex e → Reads e i k
  c_ex (ex f t x) i h k a l s =
      form_settles x i k (c_form x i (h.2) k a) l s ∙ ap (λ e. go_on (stop_ex_form x i) (settle (stop_ex_form x i) k e (first l)) l) (ap₂ (λ f t. ex f t x) (sym (h.0)) (sym (h.1)))

  -- where links may follow
  c_primary : (e : Ex) (i : ℕ) → FitsEx e i → (k : Stack) → floor k ≤ tier_ex e → primary_rank ≤ ex_rank e → (l : Tokens) → run i k want (spell_ex e l) ≡ run (stop_ex e i) k (after_links e no_link) l
  c_primary (ex f t x) i h k a r l =
      form_primary x i k r (c_form x i (h.2) k a) l ∙ ap (λ e. run (stop_ex_form x i) k (after_links e no_link) l) (ap₂ (λ f t. ex f t x) (sym (h.0)) (sym (h.1)))

  c_form : (x : ExForm) (i : ℕ) → FitsExForm x i → (k : Stack) → floor k ≤ tier x → ReadsForm x i k
  c_form (variable n) i h k a = variable_read n h i k
  c_form (number n) i h k a = λ l. refl
  c_form (text n) i h k a = λ l. refl
  c_form (truth_value v) i h k a = truth_read v i k
  c_form null_value i h k a = λ l. refl
  c_form (parens e) i h k a =
      λ l. begin_parens e (suc i) h k i (Punct CloseParen ∷ l) refl ∙ c_ex e (suc i) h (in_parens i ∷ k) (omega arith) (Punct CloseParen ∷ l) (omega arith)
  c_form (elements es c) i h k a = λ l. c_row es c (array_row i) (suc i) (h.0) (h.1) k l
  c_form (fields fs c) i h k a = λ l. c_fields fs c i (suc i) (h.0) (h.1) k l
  c_form (function_ex (function f t n g b)) i h k a =
      λ l. let j = stop_function (function f t n g b) i in
      c_function (function f t n g b) i h is_value (λ e. absurd (value_statement e)) k l (go k (after_links (ex i j (function_ex (function f t n g b))) no_link))
      (ap (λ p. go k (after_links (ex p j (function_ex (function f t n g b))) no_link)) (h.0))
  c_form (postfixed e no_link) i h k a = absurd (false≢true (h.2))
  c_form (postfixed e (more_link ls y)) i h k a =
      λ l s. let j = stop_links (more_link ls y) (stop_ex e i) in
      c_primary e i (h.1) k (let t = tier_least e in let r : 10 ≤ ex_rank e = h.0 in omega arith) (h.0) (spell_links (more_link ls y) l)
      ∙ c_links (more_link ls y) (stop_ex e i) (h.3) e k l
      ∙ links_settle j k e (more_link ls y) l (omega arith) ∙ ap (λ f. go_on j (settle j k (ex f j (postfixed e (more_link ls y))) (first l)) l) (start-of e i (h.1))
  c_form (prefixed no_prefix e) i h k a = absurd (false≢true (h.0))
  c_form (prefixed (more_prefix ps p x) e) i h k a =
      λ l s. let q = more_prefix ps p x in let j = stop_prefixes q i in let z = stop_ex e j in let r : 9 ≤ ex_rank e = h.2 in
      prefixes_run q i (h.1) k a (spell_ex e l)
      ∙ c_ex e j (h.3) (in_prefix i q ∷ k) (let t = tier_of e (omega arith) in omega arith) l (omega arith)
      ∙ ap (λ s. go_on z s l) (prefix_ends z k i q e (turn (first l)) (first l))
  c_form (chain p e no_operand) i h k a = absurd (false≢true (h.2))
  c_form (chain p e (more_operand os o)) i h k a =
      λ l s. c_operands (more_operand os o) p e i k (h.0) (start-of e i (h.1))
      (c_ex e i (h.1) k (let t = tier_least e in let r = h.0 in let q = rank_below p in omega arith)) (h.3) a l (omega arith)
  c_form (cond no_arm e) i h k a = absurd (false≢true (h.0))
  c_form (cond (more_arm hs y) e) i h k a =
      λ l s. let q = more_arm hs y in let j = stop_arms q i in let z = stop_ex e j in
      c_arms (more_arm hs y) i (h.1) k a (spell_ex e l) ∙ c_ex e j (h.3) (in_last i q ∷ k) (last_tier e (h.2)) l (omega arith)
      ∙ ap (λ s. go_on z s l) (last_ends z k i q e (turn (first l)) (first l) s)
  c_form (arrow g (arrow_block (block f t ss))) i h k a =
      λ l s. let j = stop_sig g i in let p = suc j in let n = stop_stmts ss (suc p) in let z = suc n in
      c_sig k (arrow_stands k a) g i (h.1) (h.0) (Punct OpenBrace ∷ spell_stmts ss (Punct CloseBrace ∷ l))
      ∙ c_stmts ss body_context (suc p) (h.2.2) p (in_body g ∷ k) refl (Punct CloseBrace ∷ l) refl
      ∙ run-then z k (settled (ex (start_sig g) z (arrow g (arrow_block (block p z ss))))) l
      ∙ ap₂ (λ f b. go_on z (settle z k (ex f z (arrow g (arrow_block b))) (first l)) l) (start-sig g i (h.1)) (ap₂ (λ f t. block f t ss) (sym (h.2.0)) (sym (h.2.1)))
  c_form (arrow g (arrow_value e)) i h k a =
      λ l s. let j = suc (stop_sig g i) in let z = stop_ex e j in
      c_sig k (arrow_stands k a) g i (h.1) (h.0) (spell_ex e l) ∙ begin_body e j (h.2.1) (h.2.0) k g l
      ∙ c_ex e j (h.2.1) (in_arrow g ∷ k) (omega arith) l (omega arith) ∙ ap (λ s. go_on z s l) (arrow_ends z k g e (turn (first l)) (first l) s)
      ∙ ap (λ f. go_on z (settle z k (ex f z (arrow g (arrow_value e))) (first l)) l) (start-sig g i (h.1))

  c_links : (ls : Links) (i : ℕ) → FitsLinks ls i → (e : Ex) (k : Stack) (l : Tokens) → run i k (after_links e no_link) (spell_links ls l) ≡ run (stop_links ls i) k (after_links e ls) l
  c_links no_link i h e k l = refl
  c_links (more_link ls y) i h e k l = c_links ls i (h.0) e k (spell_link y l) ∙ c_link y (stop_links ls i) (h.1) e ls k l

  c_link : (y : Link) (i : ℕ) → FitsLink y i → (e : Ex) (ls : Links) (k : Stack) (l : Tokens) → run i k (after_links e ls) (spell_link y l) ≡ run (stop_link y i) k (after_links e (more_link ls y)) l
  c_link (link f t x) i h e ls k l =
      c_link_form x i (h.2) e ls k l ∙ ap (λ y. run (stop_link_form x i) k (after_links e (more_link ls y)) l) (ap₂ (λ f t. link f t x) (sym (h.0)) (sym (h.1)))

  c_link_form : (x : LinkForm) (i : ℕ) → FitsLinkForm x i → (e : Ex) (ls : Links) (k : Stack) (l : Tokens) →
      run i k (after_links e ls) (spell_link_form x l) ≡ run (stop_link_form x i) k (after_links e (more_link ls (link i (stop_link_form x i) x))) l
  c_link_form (member n) i h e ls k l = refl
  c_link_form (index d) i h e ls k l = c_ex d (suc i) h (in_index e ls i ∷ k) (omega arith) (Punct CloseBracket ∷ l) (omega arith)
  c_link_form (call es c) i h e ls k l = c_row es c (call_row e ls i) (suc i) (h.0) (h.1) k l

  c_row : (es : Exs) (c : Bool) (r : Row) (i : ℕ) → FitsExs es i → CommaFits c (has_exs es) → (k : Stack) (l : Tokens) →
      run i k (row_start r no_ex) (spell_exs es (opt c (Punct Comma) (closer r ∷ l))) ≡ run (suc (bump c (stop_exs es i))) k (close_row (bump c (stop_exs es i)) r es c) l
  c_row no_ex true r i h c k l = absurd (false≢true (c refl))
  c_row no_ex false r i h c k l = row_close r i k no_ex l
  c_row (more_ex es e) true r i h c k l =
      let j = stop_listed es i in let z = stop_ex e j in let m = Punct Comma ∷ closer r ∷ l in
      c_items es r i (h.0) k (spell_ex e m) ∙ begin_item e j (h.1) k r es m ∙ c_ex e j (h.1) (in_row r es ∷ k) (omega arith) m (omega arith)
      ∙ ap (λ s. go_on z s m) (item_comma r z k es e) ∙ row_close r (suc z) k (more_ex es e) l
  c_row (more_ex es e) false r i h c k l =
      let j = stop_listed es i in let z = stop_ex e j in let m = closer r ∷ l in
      c_items es r i (h.0) k (spell_ex e m) ∙ begin_item e j (h.1) k r es m ∙ c_ex e j (h.1) (in_row r es ∷ k) (omega arith) m (closer_ends r (ex_rank e))
      ∙ ap (λ s. go_on z s m) (item_close r z k es e)

  c_items : (es : Exs) (r : Row) (i : ℕ) → FitsExs es i → (k : Stack) (l : Tokens) → run i k (row_start r no_ex) (spell_listed es l) ≡ run (stop_listed es i) k (row_start r es) l
  c_items no_ex r i h k l = refl
  c_items (more_ex es e) r i h k l =
      let j = stop_listed es i in let z = stop_ex e j in let m = Punct Comma ∷ l in
      c_items es r i (h.0) k (spell_ex e m) ∙ begin_item e j (h.1) k r es m ∙ c_ex e j (h.1) (in_row r es ∷ k) (omega arith) m (omega arith)
      ∙ ap (λ s. go_on z s m) (item_comma r z k es e)

  c_operands : (os : Operands) (p : Level) (e : Ex) (i : ℕ) (k : Stack) → operand_rank p ≤ ex_rank e → start_ex e ≡ i → Reads e i k → FitsOperands os p (stop_ex e i) → floor k ≤ suc (rank p) →
      (l : Tokens) → hold (turn (first l)) ≤ suc (rank p) →
      run i k want (spell_ex e (spell_operands os l)) ≡ go_on (stop_operands os (stop_ex e i)) (settle (stop_operands os (stop_ex e i)) k (built i (stop_operands os (stop_ex e i)) p e os) (first l)) l
  c_operands no_operand p e i k r st ih h a l s = ih l (let q = rank_below p in omega arith)
  c_operands (more_operand os (operand f t (right_side o g))) p e i k r st ih h a l s =
      let j = stop_operands os (stop_ex e i) in let z = stop_ex g (suc j) in let q = rank_below p in let m = Punct (mark_of o) ∷ spell_ex g l in
      let v : operand_rank p ≤ ex_rank g = h.1.2.1 in
      c_operands os p e i k r st ih (h.0) a m (mark_holds o p (h.1.2.0))
      ∙ ap (λ s. go_on j s m) (next_operand os p e i j k (applies o) (Punct (mark_of o)) (turn_mark o) (h.1.2.0) r st a)
      ∙ c_ex g (suc j) (h.1.2.2) (in_chain i p e os j o ∷ k) (let t = tier_of g (omega arith) in omega arith) l (omega arith)
      ∙ ap (λ s. go_on z s l) (chain_ends z k i p e os j o g (turn (first l)) (first l) s)
      ∙ ap (λ u. go_on z (settle z k (ex i z (chain p e (more_operand os u))) (first l)) l) (ap₂ (λ f t. operand f t (right_side o g)) (sym (h.1.0)) (sym (h.1.1)))
  c_operands (more_operand os (operand f t (as_type v))) p e i k r st ih h a l s =
      let j = stop_operands os (stop_ex e i) in let z = stop v (suc j) in let m = as_token ∷ spell v l in let q = rank_most p in
      c_operands os p e i k r st ih (h.0) a m (as_holds p (h.1.2.0))
      ∙ ap (λ s. go_on j s m) (next_operand os p e i j k casts as_token refl (sym (h.1.2.0)) r st a)
      ∙ c_type (suc j) k (cast_type i e os j) v (h.1.2.1) (λ g. refl) l (type_ends (first l) (omega arith))
      ∙ ap (λ p. go_on z (settle z k (ex i z (chain p e (more_operand os (operand j z (as_type v))))) (first l)) l) (sym (h.1.2.0))
      ∙ ap (λ u. go_on z (settle z k (ex i z (chain p e (more_operand os u))) (first l)) l) (ap₂ (λ f t. operand f t (as_type v)) (sym (h.1.0)) (sym (h.1.1)))

  c_fields : (fs : Fields) (c : Bool) (s i : ℕ) → FitsFields fs i → CommaFits c (has_fields fs) → (k : Stack) (l : Tokens) →
      run i k (fields_start s no_field) (spell_fields fs (opt c (Punct Comma) (Punct CloseBrace ∷ l))) ≡ run (suc (bump c (stop_fields fs i))) k (close_fields (bump c (stop_fields fs i)) s fs c) l
  c_fields no_field true s i h c k l = absurd (false≢true (c refl))
  c_fields no_field false s i h c k l = refl
  c_fields (more_field fs y) true s i h c k l =
      let m = Punct Comma ∷ Punct CloseBrace ∷ l in c_entries fs s i (h.0) k (spell_field y m) ∙ c_field y (stop_entries fs i) (h.1) fs s k m refl
  c_fields (more_field fs y) false s i h c k l =
      let m = Punct CloseBrace ∷ l in c_entries fs s i (h.0) k (spell_field y m) ∙ c_field y (stop_entries fs i) (h.1) fs s k m refl

  c_entries : (fs : Fields) (s i : ℕ) → FitsFields fs i → (k : Stack) (l : Tokens) → run i k (fields_start s no_field) (spell_entries fs l) ≡ run (stop_entries fs i) k (fields_start s fs) l
  c_entries no_field s i h k l = refl
  c_entries (more_field fs y) s i h k l =
      let m = Punct Comma ∷ l in c_entries fs s i (h.0) k (spell_field y m) ∙ c_field y (stop_entries fs i) (h.1) fs s k m refl

  c_field : (y : Field) (i : ℕ) → FitsField y i → (fs : Fields) (s : ℕ) (k : Stack) (l : Tokens) → ends_field (first l) ≡ true →
      run i k (fields_start s fs) (spell_field y l) ≡ go_on (stop_field y i) (after_field (stop_field y i) k s (more_field fs y) (first l)) l
  c_field (field f t (shorthand n)) i h fs s k l e =
      run-then (suc i) k (after_word s fs i n) l ∙ ap (λ s. go_on (suc i) s l) (name_ends (first l) e (suc i) k s fs i n (h.2))
      ∙ ap (λ y. go_on (suc i) (after_field (suc i) k s (more_field fs y) (first l)) l) (ap₂ (λ f t. field f t (shorthand n)) (sym (h.0)) (sym (h.1)))
  c_field (field f t (valued y d)) i h fs s k l e =
      let j = suc (suc i) in let z = stop_ex d j in
      key_read y i (h.2.0) k s fs (spell_ex d l) ∙ c_ex d j (h.2.1) (in_field s fs y ∷ k) (omega arith) l (ends-hold (first l) e (ex_rank d))
      ∙ ap (λ c. go_on z (settle_at z (in_field s fs y ∷ k) d c (first l)) l) (ends-turn (first l) e)
      ∙ ap (λ y. go_on z (after_field z k s (more_field fs y) (first l)) l) (ap₂ (λ f t. field f t (valued y d)) (start-key y i (h.2.0) ∙ sym (h.0)) (sym (h.1)))

  c_arms : (hs : Arms) (i : ℕ) → FitsArms hs i → (k : Stack) → floor k ≤ 0 → (l : Tokens) → run i k want (spell_arms hs l) ≡ run (stop_arms hs i) (with_arms i hs k) want l
  c_arms no_arm i h k a l = refl
  c_arms (more_arm hs (arm f t d g)) i h k a l =
      let j = stop_arms hs i in let n = stop_ex d j in let z = stop_ex g (suc n) in let m = Punct Question ∷ spell_ex g (Punct Colon ∷ l) in
      c_arms hs i (h.0) k a (spell_ex d m) ∙ c_ex d j (h.1.3) (with_arms i hs k) (floor_arms hs i k d a (h.1.2)) m (h.1.2)
      ∙ ap (λ s. go_on n s m) (ask_arms hs i n k d a (h.1.2) (start-of d j (h.1.3)))
      ∙ c_ex g (suc n) (h.1.4) (in_branch i hs d ∷ k) (omega arith) (Punct Colon ∷ l) (omega arith)
      ∙ ap (λ y. run (suc z) (in_last i (more_arm hs y) ∷ k) want l) (ap₂ (λ f t. arm f t d g) (start-of d j (h.1.3) ∙ sym (h.1.0)) (sym (h.1.1)))

  -- a function behind its word
  pub c_function : (y : Function) (i : ℕ) → FitsFunction y i → (q : FunctionKind) → (q ≡ is_statement → IsNamed y) → (k : Stack) (l : Tokens) (s : Step) → give_function (stop_function y i) k q y ≡ s →
      run (suc i) k (function_start q i) (behind y l) ≡ resume (λ k m. run (stop_function y i) k m l) s (Punct CloseBrace ∷ l)
  c_function (function f t n g (block a e ss)) i h q y k l _ r =
      let j = stop_sig g (stop_name n (suc i)) in let z = suc (stop_stmts ss (suc j)) in
      c_function_sig k q n g i (h.2) y (h.3) (spell_stmts ss (Punct CloseBrace ∷ l))
      ∙ c_stmts ss body_context (suc j) (h.4.2) j (in_function q i n g ∷ k) refl (Punct CloseBrace ∷ l) refl
      ∙ ap (λ s. resume (λ k m. run z k m l) s (Punct CloseBrace ∷ l))
      (ap (λ y. give_function z k q y) (same_function n g i f z t (block j z ss) (block a e ss) (sym (h.0)) (sym (h.1)) (ap₂ (λ f t. block f t ss) (sym (h.4.0)) (sym (h.4.1)))) ∙ r)

  -- a declaration behind its first word
  pub c_declaration : (y : Declaration) (i : ℕ) → FitsDeclaration y i → (k : Stack) (l : Tokens) (s : Step) → give_declaration (suc (stop_declaration y i)) k i y ≡ s →
      run (suc i) k (after_binder i (binder_of y)) (behind_binder y (Punct Semicolon ∷ l)) ≡ resume (λ k m. run (suc (stop_declaration y i)) k m l) s (Punct Semicolon ∷ l)
  c_declaration (declaration f t w n v e) i h k l _ r =
      let j = stop_annotation v (suc (suc i)) in let z = stop_ex e (suc j) in let p = Punct Semicolon ∷ l in
      name_declared w n (h.2) i (suc i) k (spell_annotation v (Punct Assign ∷ spell_ex e p)) ∙ annotation_read v w n i (suc (suc i)) (h.3) k (spell_ex e p)
      ∙ c_ex e (suc j) (h.4) (in_declaration i w n v ∷ k) (omega arith) p (omega arith)
      ∙ ap (λ s. resume (λ k m. run (suc z) k m l) s p) (ap (λ y. give_declaration (suc z) k i y) (ap₂ (λ f t. declaration f t w n v e) (sym (h.0)) (sym (h.1))) ∙ r)

  pub c_stmts : (ss : Stmts) (c : Context) (i : ℕ) → FitsStmts ss c i → (s : ℕ) (k : Stack) → context k ≡ c → (l : Tokens) → is_else (first l) ≡ false → run i k (statements_start s no_stmt) (spell_stmts ss l) ≡ run (stop_stmts ss i) k (statements_start s ss) l
  c_stmts no_stmt c i h s k u l e = refl
  c_stmts (more_stmt ss y) c i h s k u l e =
      let j = stop_stmts ss i in c_stmts ss c i (h.0) s k u (spell_stmt y l) (stmt_else y c j (h.1) l) ∙ c_stmt y c j (h.1) s ss k u l e

  pub c_stmt : (y : Stmt) (c : Context) (i : ℕ) → FitsStmt y c i → (s : ℕ) (ss : Stmts) (k : Stack) → context k ≡ c → (l : Tokens) → is_else (first l) ≡ false →
      run i k (statements_start s ss) (spell_stmt y l) ≡ run (stop_stmt y i) k (statements_start s (more_stmt ss y)) l
  c_stmt (stmt f t x) c i h s ss k u l e =
      c_stmt_form x c i (h.2) s ss k u l e ∙ ap (λ y. run (stop_stmt_form x i) k (statements_start s (more_stmt ss y)) l) (ap₂ (λ f t. stmt f t x) (sym (h.0)) (sym (h.1)))

  c_stmt_form : (x : StmtForm) (c : Context) (i : ℕ) → FitsStmtForm x c i → (s : ℕ) (ss : Stmts) (k : Stack) → context k ≡ c → (l : Tokens) → is_else (first l) ≡ false →
      run i k (statements_start s ss) (spell_stmt_form x l) ≡ run (stop_stmt_form x i) k (statements_start s (more_stmt ss (stmt i (stop_stmt_form x i) x))) l
  c_stmt_form (declares (declaration f t w n v d)) c i h s ss k u l e =
      let y = declares (declaration f t w n v d) in
      binder_read w i s ss k (Name n ∷ spell_annotation v (Punct Assign ∷ spell_ex d (Punct Semicolon ∷ l)))
      ∙ c_declaration (declaration f t w n v d) i h (in_block s ss ∷ k) l (go k (statements_start s (more_stmt ss (stmt i (stop_stmt_form y i) y)))) refl
  c_stmt_form (function_stmt (function f t n g b)) c i h s ss k u l e =
      let j = stop_function (function f t n g b) i in
      c_function (function f t n g b) i (h.1) is_statement (λ q. h.0) (in_block s ss ∷ k) l (go k (statements_start s (more_stmt ss (stmt i j (function_stmt (function f t n g b))))))
      (ap (λ p. go k (statements_start s (more_stmt ss (stmt p j (function_stmt (function f t n g b)))))) (h.1.0))
  c_stmt_form (does (simple f t x)) c i h s ss k u l e =
      let j = suc (stop_simple_form x i) in
      c_simple (simple f t x) c i h k (statements_start s ss) (in_block s ss ∷ k) u (takes_statement i k s ss) (go k (statements_start s (more_stmt ss (stmt i j (does (simple f t x))))))
      (ap (λ p. go k (statements_start s (more_stmt ss (stmt p j (does (simple f t x)))))) (h.0)) l
  c_stmt_form (branches bs y) c i h s ss k u l e =
      c_branches bs c i (h.1) (h.0) s ss k u (spell_else y l) ∙ c_else y c (stop_branches bs i) (h.2) i bs s ss k u l e
  c_stmt_form (loop d b) c i h s ss k u l e =
      let z = suc (stop_ex d (suc (suc i))) in let a = in_block s ss ∷ k in
      c_ex d (suc (suc i)) (h.0) (in_loop_test i ∷ a) (omega arith) (Punct CloseParen ∷ spell_body b l) (omega arith)
      ∙ c_body b (looping c) z (h.1) (in_loop i d ∷ a) want_body (in_loop i d ∷ a) (ap looping u) (body_taken z (in_loop i d ∷ a) (λ z b. refl) (λ z y. refl))
      (go k (statements_start s (more_stmt ss (stmt i (stop_body b z) (loop d b))))) refl l
  c_stmt_form (nested (block f t y)) c i h s ss k u l e =
      let z = suc (stop_stmts y (suc i)) in
      c_stmts y c (suc i) (h.2) i (in_block s ss ∷ k) u (Punct CloseBrace ∷ l) refl
      ∙ ap (λ b. run z k (statements_start s (more_stmt ss (stmt i z (nested b)))) l) (ap₂ (λ f t. block f t y) (sym (h.0)) (sym (h.1)))

  pub c_simple : (y : Simple) (c : Context) (i : ℕ) → FitsSimple y c i → (k : Stack) (m : Mode) (a : Stack) → context a ≡ c → TakesSimple i k m a → (s : Step) → end_simple (stop_simple y i) a y ≡ s → (l : Tokens) →
      run i k m (spell_simple y (Punct Semicolon ∷ l)) ≡ resume (λ k m. run (suc (stop_simple y i)) k m l) s (Punct Semicolon ∷ l)
  c_simple (simple f t x) c i h k m a u w _ r l =
      let j = stop_simple_form x i in
      c_simple_form x c i (h.2) k m a u w l ∙ ap (λ s. resume (λ k m. run (suc j) k m l) s (Punct Semicolon ∷ l)) (ap (λ y. end_simple j a y) (ap₂ (λ f t. simple f t x) (sym (h.0)) (sym (h.1))) ∙ r)

  c_simple_form : (x : SimpleForm) (c : Context) (i : ℕ) → FitsSimpleForm x c i → (k : Stack) (m : Mode) (a : Stack) → context a ≡ c → TakesSimple i k m a → (l : Tokens) →
      run i k m (spell_simple_form x (Punct Semicolon ∷ l)) ≡ resume (λ k m. run (suc (stop_simple_form x i)) k m l) (end_simple (stop_simple_form x i) a (simple i (stop_simple_form x i) x)) (Punct Semicolon ∷ l)
  c_simple_form return_bare c i h k m a u w l = simple_read (codes "return") i k m a w (Punct Semicolon ∷ l) refl ∙ returned i a c u h (Punct Semicolon ∷ l)
  c_simple_form (return_value e) c i h k m a u w l =
      let n = Punct Semicolon ∷ l in
      simple_read (codes "return") i k m a w (spell_ex e n) refl ∙ returned i a c u (h.0) (spell_ex e n) ∙ begin_return e (suc i) (h.1) a i n ∙ c_ex e (suc i) (h.1) (in_simple i returns ∷ a) (omega arith) n (omega arith)
  c_simple_form (throw_value e) c i h k m a u w l =
      let n = Punct Semicolon ∷ l in
      simple_read (codes "throw") i k m a w (spell_ex e n) refl ∙ c_ex e (suc i) h (in_simple i throws ∷ a) (omega arith) n (omega arith)
  c_simple_form break_loop c i h k m a u w l = simple_read (codes "break") i k m a w (Punct Semicolon ∷ l) refl ∙ left break_loop refl i a c u h (Punct Semicolon ∷ l)
  c_simple_form continue_loop c i h k m a u w l = simple_read (codes "continue") i k m a w (Punct Semicolon ∷ l) refl ∙ left continue_loop refl i a c u h (Punct Semicolon ∷ l)
  c_simple_form (assign d e) c i h k m a u w l =
      let n = Punct Semicolon ∷ l in let p = Punct Assign ∷ spell_ex e n in let z = stop_ex d i in
      begin_evaluate d i (h.2) (h.1) k a m w p ∙ c_ex d i (h.2) (in_simple i evaluates ∷ a) (omega arith) p (omega arith)
      ∙ target_read d (h.0) i z a (spell_ex e n)
      ∙ c_ex e (suc z) (h.3) (in_simple i (assigns d) ∷ a) (omega arith) n (omega arith)
  c_simple_form (evaluate e) c i h k m a u w l =
      let n = Punct Semicolon ∷ l in
      begin_evaluate e i (h.1) (h.0) k a m w n ∙ c_ex e i (h.1) (in_simple i evaluates ∷ a) (omega arith) n (omega arith)

  pub c_body : (b : Body) (c : Context) (i : ℕ) → FitsBody b c i → (k : Stack) (m : Mode) (a : Stack) → context a ≡ c → TakesBody i k m a → (s : Step) → give_body (stop_body b i) a b ≡ s → (l : Tokens) →
      run i k m (spell_body b l) ≡ resume (λ k m. run (stop_body b i) k m l) s (body_end b ∷ l)
  c_body (block_body (block f t ss)) c i h k m a u w _ r l =
      let z = suc (stop_stmts ss (suc i)) in let n = Punct CloseBrace ∷ l in
      ap (λ s. resume (λ k m. run (suc i) k m (spell_stmts ss n)) s (Punct OpenBrace ∷ spell_stmts ss n)) (w.1)
      ∙ c_stmts ss c (suc i) (h.2) i a u n refl
      ∙ ap (λ s. resume (λ k m. run z k m l) s n) (w.2 z (block i z ss) ∙ ap (λ b. give_body z a (block_body b)) (ap₂ (λ f t. block f t ss) (sym (h.0)) (sym (h.1))) ∙ r)
  c_body (simple_body y) c i h k m a u w s r l = c_simple y c i h k m a u (w.0) s (w.3 (stop_simple y i) y ∙ r) l

  c_branches : (bs : Branches) (c : Context) (i : ℕ) → FitsBranches bs c i → has_branches bs ≡ true → (s : ℕ) (ss : Stmts) (k : Stack) → context k ≡ c → (l : Tokens) →
      run i k (statements_start s ss) (spell_branches bs l) ≡ run (stop_branches bs i) (in_block s ss ∷ k) (after_branch i bs) l
  c_branches no_branch c i h y s ss k u l = absurd (false≢true y)
  c_branches (more_branch bs b) c i h y s ss k u l = c_elses bs c i (h.0) s ss k u (spell_branch b l) ∙ c_branch b c (stop_elses bs i) (h.1) bs i refl s ss k u l

  c_elses : (bs : Branches) (c : Context) (i : ℕ) → FitsBranches bs c i → (s : ℕ) (ss : Stmts) (k : Stack) → context k ≡ c → (l : Tokens) →
      run i k (statements_start s ss) (spell_elses bs l) ≡ run (stop_elses bs i) (under bs s ss k) (awaits bs i s ss) l
  c_elses no_branch c i h s ss k u l = refl
  c_elses (more_branch bs b) c i h s ss k u l =
      let n = Name (codes "else") ∷ l in c_elses bs c i (h.0) s ss k u (spell_branch b n) ∙ c_branch b c (stop_elses bs i) (h.1) bs i refl s ss k u n

  c_branch : (b : Branch) (c : Context) (j : ℕ) → FitsBranch b c j → (bs : Branches) (i : ℕ) → j ≡ stop_elses bs i → (s : ℕ) (ss : Stmts) (k : Stack) → context k ≡ c → (l : Tokens) →
      run j (under bs s ss k) (awaits bs i s ss) (spell_branch b l) ≡ run (stop_branch b j) (in_block s ss ∷ k) (after_branch i (more_branch bs b)) l
  c_branch (branch f t e b) c j h bs i q s ss k u l =
      let z = suc (stop_ex e (suc (suc j))) in let a = in_if i bs j e ∷ in_block s ss ∷ k in
      if_read bs i j q s ss k (spell_ex e (Punct CloseParen ∷ spell_body b l))
      ∙ c_ex e (suc (suc j)) (h.2) (in_if_test i bs j ∷ in_block s ss ∷ k) (omega arith) (Punct CloseParen ∷ spell_body b l) (omega arith)
      ∙ c_body b c z (h.3) a want_body a u (body_taken z a (λ z b. refl) (λ z y. refl)) (go (in_block s ss ∷ k) (after_branch i (more_branch bs (branch f t e b))))
      (ap (λ y. go (in_block s ss ∷ k) (after_branch i (more_branch bs y))) (ap₂ (λ f t. branch f t e b) (sym (h.0)) (sym (h.1)))) l

  c_else : (y : Else) (c : Context) (j : ℕ) → FitsElse y c j → (i : ℕ) (bs : Branches) (s : ℕ) (ss : Stmts) (k : Stack) → context k ≡ c → (l : Tokens) → is_else (first l) ≡ false →
      run j (in_block s ss ∷ k) (after_branch i bs) (spell_else y l) ≡ run (stop_else y j) k (statements_start s (more_stmt ss (stmt i (stop_else y j) (branches bs y)))) l
  c_else no_else c j h i bs s ss k u l e =
      run-then j (in_block s ss ∷ k) (after_branch i bs) l ∙ ap (λ s. go_on j s l) (no_more (first l) e j s ss k i bs)
      ∙ sym (run-then j k (statements_start s (more_stmt ss (stmt i j (branches bs no_else)))) l)
  c_else (else_body b) c j h i bs s ss k u l e =
      c_body b c (suc j) h (in_block s ss ∷ k) (after_else i bs) (in_else i bs ∷ in_block s ss ∷ k) u (else_taken (suc j) (in_block s ss ∷ k) i bs)
      (go k (statements_start s (more_stmt ss (stmt i (stop_body b (suc j)) (branches bs (else_body b)))))) refl l
