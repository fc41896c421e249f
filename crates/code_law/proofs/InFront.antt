-- Two blocks, or two statements, that stand in front of one list of tokens are one.
use Rattle.std.proofs.Common.{◌≡◌, refl, sym, ◌∙◌, ap, ap₂, subst, inl, inr, ◌⊎◌, ℕ, suc, ◌≤◌, arith, Bool, true, false, None, [], ◌∷◌, ◌++◌, codes, append-nil, append_assoc, if◌then◌else◌}
use Rattle.std.proofs.lemmas.Bool.{false≢true}
use Rattle.js_token.specs.declared.token.TokenKind.{TokenKind}
use Rattle.js_token.specs.declared.token.TokenKind.TheVariants.{Name, Punct}
use Rattle.js_token.specs.declared.punct.Punct.TheVariants.{OpenBrace, CloseBrace, OpenParen, CloseParen, Semicolon, Assign}
use Rattle.js_grammar.specs.TypeSpelling.{Tokens}
use Rattle.js_grammar.specs.Machine.{first}
use Rattle.js_grammar.specs.GoesOn.{IsEnded}
use Rattle.js_grammar.specs.Code.{Binder, const, let_word, Ex, ex, number, arrow, arrow_block, function, Function, Sig, sig, no_parameter, Block, block, Stmts, no_stmt, more_stmt, Stmt, stmt, StmtForm, declares, function_stmt, does, branches, loop, nested, Declaration, declaration, Simple, simple, SimpleForm, return_bare, return_value, throw_value, break_loop, continue_loop, assign, evaluate, Body, block_body, simple_body, Branch, branch, Branches, no_branch, more_branch, no_else, else_body}
use Rattle.js_grammar.specs.CodeSpelling.{binder_word, spell_ex, spell_block, spell_stmts, spell_stmt, spell_stmt_form, spell_simple_form, spell_body, spell_branch, spell_elses}
use Rattle.js_grammar.specs.CodePlaces.{stop_ex, stop_block, stop_stmts, stop_stmt, stop_branch, stop_elses}
use Rattle.js_grammar.specs.CodeFits.{Context, inside, looping, BeginsPlain, FitsEx, FitsBlock, FitsStmt, FitsStmtForm, FitsSimpleForm, FitsBranch, FitsBranches}
use Rattle.js_grammar.proofs.Front.{Front, f_block, f_stmt}
use Rattle.js_grammar.proofs.OneAnswer.{apart}
use Rattle.code_law.specs.Frames.{is_statement, in_if_test, in_loop_test, in_if, in_else, in_loop, in_function, in_body, in_block, want_body, function_start, statements_start, after_binder, after_if, after_while, after_branch, after_else, Stack, fault, go, context}
use Rattle.code_law.specs.Bodies.{give_stmt, give_declaration, give_function, give_block, end_simple}
use Rattle.code_law.specs.Statements.{StatementWord, binds, begins_function, if_word, while_word, plain_word, statement_word, is_else, end_branches}
use Rattle.code_law.specs.Machine.{Outcome, faulty, whole, resume, run, go_on}
use Rattle.code_law.specs.Law.{SameFrontSameBlock, SameFrontSameStatement}
use Rattle.code_law.proofs.Begins.{is_plain, Starts, leads}
use Rattle.code_law.proofs.Statements.{takes_body, body_taken, else_taken}
use Rattle.code_law.proofs.Complete.{run-then, behind_binder, body_end, c_ex, c_function, c_declaration, c_stmts, c_stmt, c_simple, c_body}

-- of two forms in front of one list, one stands in front of the other; E holds of what follows each, and so of what is left of it
pub shorter : {A : Type 0} (s : A → Tokens → Tokens) (t : A → ℕ → ℕ) (f : (x : A) → Front (s x) (t x)) (P : A → Type 0) (E : Tokens → Type 0) → ((d n : Tokens) → E (d ++ n) → E d) →
    ((a b : A) → P a → P b → (d : Tokens) → E d → s b [] ≡ s a d → a ≡ b) → (a b : A) → P a → P b → (m n : Tokens) → s a m ≡ s b n → E m → E n → a ≡ b
shorter s t f P E left by a b h j m n e u v = choose (apart ((f a).0) ((f b).0) m n (sym ((f a).1 m) ∙ e ∙ (f b).1 n))
  where
    in_front : (a b : _) (d : Tokens) → (f b).0 ≡ (f a).0 ++ d → s b [] ≡ s a d
    in_front a b d p = (f b).1 [] ∙ append-nil ((f b).0) ∙ p ∙ sym ((f a).1 d)

    choose : ((d : Tokens) × ((f b).0 ≡ (f a).0 ++ d) × (m ≡ d ++ n)) ⊎ ((d : Tokens) × ((f a).0 ≡ (f b).0 ++ d) × (n ≡ d ++ m)) → a ≡ b
    choose (inl (d, p, q)) = by a b h j d (left d n (subst E q u)) (in_front a b d p)
    choose (inr (d, p, q)) = sym (by b a j h d (left d m (subst E q v)) (in_front b a d p))

abbrev pub Any : Tokens → Type 0
Any l = Unit {0}

abbrev no_sig : Sig
no_sig = sig 0 2 no_parameter false None

-- where a block stands that is refused, and where one is taken
abbrev refusing : Bool → Stack
refusing true = in_loop 0 (ex 0 0 (number [])) ∷ in_function is_statement 0 None no_sig ∷ []
refusing false = in_function is_statement 0 None no_sig ∷ []

abbrev taking : Bool → Stack
taking true = in_loop 0 (ex 0 0 (number [])) ∷ in_block 0 no_stmt ∷ in_body no_sig ∷ []
taking false = in_body no_sig ∷ []

-- what closes the forms round the block
abbrev closed : Bool → Tokens
closed true = Punct CloseBrace ∷ []
closed false = []

abbrev taken : Bool → Block → ℕ → Ex
taken true b z = ex 0 (suc z) (arrow no_sig (arrow_block (block 0 (suc z) (more_stmt no_stmt (stmt 0 z (loop (ex 0 0 (number [])) (block_body b)))))))
taken false b z = ex 0 z (arrow no_sig (arrow_block b))

context_of : (l : Bool) → (context (refusing l) ≡ inside true l) × (context (taking l) ≡ inside true l)
context_of true = (refl, refl)
context_of false = (refl, refl)

-- the statements of a block, up to its last brace
read_block : (l : Bool) (f t : ℕ) (ss : Stmts) (i : ℕ) → FitsBlock (block f t ss) (inside true l) i → (k : Stack) → context k ≡ inside true l → (r : Tokens) →
    run (suc i) k (statements_start i no_stmt) (spell_stmts ss (Punct CloseBrace ∷ r))
    ≡ resume (λ k m. run (suc (stop_stmts ss (suc i))) k m r) (give_block (suc (stop_stmts ss (suc i))) k (block i (suc (stop_stmts ss (suc i))) ss)) (Punct CloseBrace ∷ r)
read_block l f t ss i h k c r = c_stmts ss (inside true l) (suc i) (h.2) i k c (Punct CloseBrace ∷ r) refl

refused : (l : Bool) (z : ℕ) (b : Block) → give_block z (refusing l) b ≡ fault
refused true z b = refl
refused false z b = refl

took : (l : Bool) (z : ℕ) (b : Block) → resume (λ k m. run z k m (closed l)) (give_block z (taking l) b) (Punct CloseBrace ∷ closed l) ≡ whole (taken l b z) []
took true z b = refl
took false z b = refl

tails : {x y : TokenKind} {l r : Tokens} → x ∷ l ≡ y ∷ r → l ≡ r
tails e = cc

left_over : (l r : Tokens) → faulty l ≡ faulty r → l ≡ r
left_over l r e = cc

one_block : (l : Bool) (a b : Block) (y z : ℕ) → whole (taken l a y) [] ≡ whole (taken l b z) [] → a ≡ b
one_block true a b y z e = cc
one_block false a b y z e = cc

-- a block in front of another one is that one: each ends where its brace closes it
block_in_front : (l : Bool) (i : ℕ) (a b : Block) → FitsBlock a (inside true l) i → FitsBlock b (inside true l) i → (d : Tokens) → spell_block b [] ≡ spell_block a d → a ≡ b
block_in_front l i (block f t ss) (block g u rs) h j d e =
    ap₂ (λ f t. block f t ss) (h.0) (h.1) ∙ same ∙ sym (ap₂ (λ f t. block f t rs) (j.0) (j.1))
  where
    y : ℕ
    y = suc (stop_stmts ss (suc i))

    z : ℕ
    z = suc (stop_stmts rs (suc i))

    none : d ≡ []
    none = tails (left_over (Punct CloseBrace ∷ d) (Punct CloseBrace ∷ [])
        (sym (read_block l f t ss i h (refusing l) ((context_of l).0) d ∙ ap (λ s. resume (λ k m. run y k m d) s (Punct CloseBrace ∷ d)) (refused l y (block i y ss)))
        ∙ ap (run (suc i) (refusing l) (statements_start i no_stmt)) (tails (sym e))
        ∙ read_block l g u rs i j (refusing l) ((context_of l).0) [] ∙ ap (λ s. resume (λ k m. run z k m []) s (Punct CloseBrace ∷ [])) (refused l z (block i z rs))))

    fronts : (f_block (block f t ss)).0 ≡ (f_block (block g u rs)).0
    fronts =
        let p = f_block (block f t ss) in let q = f_block (block g u rs) in
        sym (append-nil (p.0)) ∙ sym (p.1 []) ∙ ap (spell_block (block f t ss)) (sym none) ∙ sym e ∙ q.1 [] ∙ append-nil (q.0)

    alike : (r : Tokens) → spell_block (block f t ss) r ≡ spell_block (block g u rs) r
    alike r = (f_block (block f t ss)).1 r ∙ ap (λ q. q ++ r) fronts ∙ sym ((f_block (block g u rs)).1 r)

    same : block i y ss ≡ block i z rs
    same = one_block l (block i y ss) (block i z rs) y z
        (sym (read_block l f t ss i h (taking l) ((context_of l).1) (closed l) ∙ took l y (block i y ss))
        ∙ ap (run (suc i) (taking l) (statements_start i no_stmt)) (tails (alike (closed l)))
        ∙ read_block l g u rs i j (taking l) ((context_of l).1) (closed l) ∙ took l z (block i z rs))

pub same_block : SameFrontSameBlock
same_block l i a b h j m n e = shorter spell_block stop_block f_block (λ x. FitsBlock x (inside true l) i) Any (λ d n u. tt) (λ a b h j d u e. block_in_front l i a b h j d e) a b h j m n e tt tt

-- How a statement is read under a stack, once its first token says what it is.
abbrev read_word : ℕ → Stack → StatementWord → TokenKind → Tokens → Outcome
read_word i o (binds w) x l = run (suc i) o (after_binder i w) l
read_word i o begins_function x l = run (suc i) o (function_start is_statement i) l
read_word i o if_word x l = run (suc i) o (after_if i no_branch i) l
read_word i o while_word x l = run (suc i) o (after_while i) l
read_word i o w x l = run i o want_body (x ∷ l)

abbrev read_one : ℕ → Stack → Tokens → Outcome
read_one i o [] = faulty []
read_one i o (Punct OpenBrace ∷ l) = run (suc i) o (statements_start i no_stmt) l
read_one i o (Name n ∷ l) = read_word i o (statement_word n) (Name n) l
read_one i o (x ∷ l) = run i o want_body (x ∷ l)

binder_one : (w : Binder) (i : ℕ) (o : Stack) (l : Tokens) → read_one i o (Name (binder_word w) ∷ l) ≡ run (suc i) o (after_binder i w) l
binder_one const i o l = refl
binder_one let_word i o l = refl

plain_one : (w : StatementWord) → is_plain w ≡ true → (i : ℕ) (o : Stack) (x : TokenKind) (l : Tokens) → read_word i o w x l ≡ run i o want_body (x ∷ l)
plain_one plain_word h i o x l = refl
plain_one w h i o x l = absurd (false≢true h)

value_one : (e : Ex) (i : ℕ) → FitsEx e i → BeginsPlain e → (o : Stack) (l : Tokens) → read_one i o (spell_ex e l) ≡ run i o want_body (spell_ex e l)
value_one e i h p o l = let d = leads e i h in ap (read_one i o) ((d.2 l).1) ∙ at (d.0) ((d.2 l).0) (d.1) (d.2 []) ∙ sym (ap (run i o want_body) ((d.2 l).1))
  where
    at : (x : TokenKind) (r : Tokens) → Starts x → (r : Tokens) × (spell_ex e [] ≡ x ∷ r) → read_one i o (x ∷ r) ≡ run i o want_body (x ∷ r)
    at x r (inr q) d = absurd (p.1 (d.0) (d.1 ∙ ap (λ x. x ∷ d.0) q))
    at (Name n) r (inl g) d = plain_one (statement_word n) g i o (Name n) r
    at (Punct OpenBrace) r (inl g) d = absurd (p.0 (d.0) (d.1))
    at x r (inl g) d = refl

simple_one : (x : SimpleForm) (c : Context) (i : ℕ) → FitsSimpleForm x c i → (o : Stack) (l : Tokens) → read_one i o (spell_simple_form x (Punct Semicolon ∷ l)) ≡ run i o want_body (spell_simple_form x (Punct Semicolon ∷ l))
simple_one return_bare c i h o l = refl
simple_one (return_value e) c i h o l = refl
simple_one (throw_value e) c i h o l = refl
simple_one break_loop c i h o l = refl
simple_one continue_loop c i h o l = refl
simple_one (assign d e) c i h o l = value_one d i (h.2) (h.1) o (Punct Assign ∷ spell_ex e (Punct Semicolon ∷ l))
simple_one (evaluate e) c i h o l = value_one e i (h.1) (h.0) o (Punct Semicolon ∷ l)

-- The stack that refuses a block refuses all that makes a statement of it.
no_stmt_taken : (l : Bool) (y : Stmt) → give_stmt (refusing l) y ≡ fault
no_stmt_taken true y = refl
no_stmt_taken false y = refl

no_declaration : (l : Bool) (z s : ℕ) (y : Declaration) → give_declaration z (refusing l) s y ≡ fault
no_declaration true z s y = refl
no_declaration false z s y = refl

no_function : (l : Bool) (z : ℕ) (y : Function) → give_function z (refusing l) is_statement y ≡ fault
no_function true z y = refl
no_function false z y = refl

no_simple : (l : Bool) (z : ℕ) (y : Simple) → end_simple z (refusing l) y ≡ fault
no_simple true z y = refl
no_simple false z y = refl

no_branches : (l : Bool) (z s : ℕ) (bs : Branches) (x : TokenKind) → end_branches z (refusing l) s bs x ≡ fault
no_branches true z s bs x = refl
no_branches false z s bs x = refl

-- the last token of a statement, where it is none that may go on
abbrev last_of : StmtForm → Tokens
last_of (declares d) = Punct Semicolon ∷ []
last_of (function_stmt f) = Punct CloseBrace ∷ []
last_of (does s) = Punct Semicolon ∷ []
last_of (branches bs no_else) = []
last_of (branches bs (else_body b)) = body_end b ∷ []
last_of (loop e b) = body_end b ∷ []
last_of (nested b) = Punct CloseBrace ∷ []

module _ (lo : Bool) where
  abbrev o : Stack
  o = refusing lo

  abbrev c : Context
  c = inside true lo

  within : context (refusing lo) ≡ inside true lo
  within = (context_of lo).0

  test_read : (e : Ex) (b : Body) (f t j : ℕ) → FitsBranch (branch f t e b) c j → (i : ℕ) (bs : Branches) (l : Tokens) →
      run (suc j) o (after_if i bs j) (Punct OpenParen ∷ spell_ex e (Punct CloseParen ∷ spell_body b l)) ≡ run (stop_branch (branch f t e b) j) o (after_branch i (more_branch bs (branch f t e b))) l
  test_read e b f t j h i bs l =
      let z = suc (stop_ex e (suc (suc j))) in let a = in_if i bs j e ∷ o in
      c_ex e (suc (suc j)) (h.2) (in_if_test i bs j ∷ o) (omega arith) (Punct CloseParen ∷ spell_body b l) (omega arith)
      ∙ c_body b c z (h.3) a want_body a within (body_taken z a (λ z b. refl) (λ z y. refl)) (go o (after_branch i (more_branch bs (branch f t e b))))
      (ap (λ y. go o (after_branch i (more_branch bs y))) (ap₂ (λ f t. branch f t e b) (sym (h.0)) (sym (h.1)))) l

  elses_read : (bs : Branches) (i : ℕ) → FitsBranches bs c i → (b : Branch) → FitsBranch b c (stop_elses bs i) → (l : Tokens) →
      read_one i o (spell_elses bs (spell_branch b l)) ≡ run (stop_branch b (stop_elses bs i)) o (after_branch i (more_branch bs b)) l
  elses_read no_branch i h (branch f t e b) g l = test_read e b f t i g i no_branch l
  elses_read (more_branch bs d) i h (branch f t e b) g l =
      let j = stop_elses (more_branch bs d) i in
      elses_read bs i (h.0) d (h.1) (Name (codes "else") ∷ spell_branch (branch f t e b) l) ∙ test_read e b f t j g i (more_branch bs d) l

  no_more_branches : (l : Tokens) → is_else (first l) ≡ false → (j i : ℕ) (bs : Branches) → run j o (after_branch i bs) l ≡ faulty l
  no_more_branches l q j i bs =
      run-then j o (after_branch i bs) l ∙ ap (λ s. go_on j s l) (ap (λ b. if b then go o (after_else i bs) else end_branches j o i bs (first l)) q ∙ no_branches lo j i bs (first l)) ∙ left l
    where
      left : (l : Tokens) → go_on j fault l ≡ faulty l
      left [] = refl
      left (x ∷ l) = refl

  -- under that stack a statement's reading ends at its last token
  ends_at : (x : StmtForm) (i : ℕ) → FitsStmtForm x c i → (l : Tokens) → is_else (first l) ≡ false → read_one i o (spell_stmt_form x l) ≡ faulty (last_of x ++ l)
  ends_at (declares (declaration f t w n v e)) i h l q =
      let y = declaration f t w n v e in binder_one w i o (behind_binder y (Punct Semicolon ∷ l)) ∙ c_declaration y i h o l fault (no_declaration lo _ _ _)
  ends_at (function_stmt (function f t n g b)) i h l q = c_function (function f t n g b) i (h.1) is_statement (λ q. h.0) o l fault (no_function lo _ _)
  ends_at (does (simple f t x)) i h l q = simple_one x c i (h.2) o l ∙ c_simple (simple f t x) c i h o want_body o within (takes_body i o) fault (no_simple lo _ _) l
  ends_at (branches no_branch y) i h l q = absurd (false≢true (h.0))
  ends_at (branches (more_branch bs b) no_else) i h l q = elses_read bs i (h.1.0) b (h.1.1) l ∙ no_more_branches l q _ i (more_branch bs b)
  ends_at (branches (more_branch bs b) (else_body d)) i h l q =
      let j = stop_branch b (stop_elses bs i) in
      elses_read bs i (h.1.0) b (h.1.1) (Name (codes "else") ∷ spell_body d l)
      ∙ c_body d c (suc j) (h.2) o (after_else i (more_branch bs b)) (in_else i (more_branch bs b) ∷ o) within (else_taken (suc j) o i (more_branch bs b)) fault (no_stmt_taken lo _) l
  ends_at (loop d b) i h l q =
      let z = suc (stop_ex d (suc (suc i))) in let a = in_loop i d ∷ o in
      c_ex d (suc (suc i)) (h.0) (in_loop_test i ∷ o) (omega arith) (Punct CloseParen ∷ spell_body b l) (omega arith)
      ∙ c_body b (looping c) z (h.1) a want_body a (ap looping within) (body_taken z a (λ z b. refl) (λ z y. refl)) fault (no_stmt_taken lo _) l
  ends_at (nested (block f t ss)) i h l q =
      let z = suc (stop_stmts ss (suc i)) in
      c_stmts ss c (suc i) (h.2) i o within (Punct CloseBrace ∷ l) refl ∙ ap (λ s. resume (λ k m. run z k m l) s (Punct CloseBrace ∷ l)) (refused lo z (block i z ss))

  -- in a block that is taken, and closed behind the statement
  in_block_read : (y : Stmt) (i : ℕ) → FitsStmt y c i → (l : Tokens) → is_else (first l) ≡ false → run i (taking lo) (statements_start 0 no_stmt) (spell_stmt y l) ≡ run (stop_stmt y i) (taking lo) (statements_start 0 (more_stmt no_stmt y)) l
  in_block_read y i h l q = c_stmt y c i h 0 no_stmt (taking lo) ((context_of lo).1) l q

  -- a block of this one statement
  abbrev whole_of : Stmt → ℕ → Ex
  whole_of y z = taken lo (block 0 (suc z) (more_stmt no_stmt y)) (suc z)

  whole_read : (y : Stmt) (i : ℕ) → FitsStmt y c i → run i (taking lo) (statements_start 0 no_stmt) (spell_stmt y (Punct CloseBrace ∷ closed lo)) ≡ whole (whole_of y (stop_stmt y i)) []
  whole_read y i h = in_block_read y i h (Punct CloseBrace ∷ closed lo) refl ∙ took lo (suc (stop_stmt y i)) (block 0 (suc (stop_stmt y i)) (more_stmt no_stmt y))

abbrev closing : Bool → TokenKind
closing true = Punct CloseBrace
closing false = Punct Semicolon

closing_else : (b : Bool) → is_else (closing b) ≡ false
closing_else true = refl
closing_else false = refl

body_ends : (b : Body) → (z : Bool) × (body_end b ≡ closing z)
body_ends (block_body b) = (true, refl)
body_ends (simple_body y) = (false, refl)

last_is : (x : StmtForm) → (last_of x ≡ []) ⊎ ((z : Bool) × (last_of x ≡ closing z ∷ []))
last_is (declares d) = inr (false, refl)
last_is (function_stmt f) = inr (true, refl)
last_is (does s) = inr (false, refl)
last_is (branches bs no_else) = inl refl
last_is (branches bs (else_body b)) = let p = body_ends b in inr (p.0, ap (λ x. x ∷ []) (p.1))
last_is (loop e b) = let p = body_ends b in inr (p.0, ap (λ x. x ∷ []) (p.1))
last_is (nested b) = inr (true, refl)

-- a further brace or semicolon is none of the block
cut : (l z : Bool) (j : ℕ) (ss : Stmts) (e : Ex) → run j (taking l) (statements_start 0 ss) (closing z ∷ Punct CloseBrace ∷ closed l) ≡ whole e [] → ⊥
cut true true j ss e q = cc
cut true false j ss e q = cc
cut false true j ss e q = cc
cut false false j ss e q = cc

one_stmt : (y z : ℕ) (a b : Stmt) → block 0 y (more_stmt no_stmt a) ≡ block 0 z (more_stmt no_stmt b) → a ≡ b
one_stmt y z a b e = cc

nothing : (x : TokenKind) (l : Tokens) → [] ≡ x ∷ l → ⊥
nothing x l e = cc

ended_else : (l : Tokens) → IsEnded is_else l → is_else (first l) ≡ false
ended_else [] u = refl
ended_else (x ∷ l) u = u

module _ (lo : Bool) (i : ℕ) (a b : Stmt) (h : FitsStmt a (inside true lo) i) (j : FitsStmt b (inside true lo) i) where
  -- a statement that another one's tokens begin, and nothing more, is that one
  alike_stmts : spell_stmt b [] ≡ spell_stmt a [] → a ≡ b
  alike_stmts e =
      one_stmt _ _ a b (one_block lo _ _ _ _
      (sym (whole_read lo a i h) ∙ ap (run i (taking lo) (statements_start 0 no_stmt)) (p.1 r ∙ ap (λ q. q ++ r) same ∙ sym (q.1 r)) ∙ whole_read lo b i j))
    where
      p : Front (spell_stmt a) (stop_stmt a)
      p = f_stmt a

      q : Front (spell_stmt b) (stop_stmt b)
      q = f_stmt b

      r : Tokens
      r = Punct CloseBrace ∷ closed lo

      same : p.0 ≡ q.0
      same = sym (append-nil (p.0)) ∙ sym (p.1 []) ∙ sym e ∙ q.1 [] ∙ append-nil (q.0)

  -- one more brace or semicolon doesn't make another statement of it
  no_further : (z : Bool) → spell_stmt b [] ≡ spell_stmt a (closing z ∷ []) → ⊥
  no_further z e =
      cut lo z (stop_stmt a i) (more_stmt no_stmt a) _
      (sym (in_block_read lo a i h (closing z ∷ r) (closing_else z)) ∙ ap (run i (taking lo) (statements_start 0 no_stmt)) (sym longer) ∙ whole_read lo b i j)
    where
      p : Front (spell_stmt a) (stop_stmt a)
      p = f_stmt a

      q : Front (spell_stmt b) (stop_stmt b)
      q = f_stmt b

      r : Tokens
      r = Punct CloseBrace ∷ closed lo

      more : q.0 ≡ p.0 ++ closing z ∷ []
      more = sym (append-nil (q.0)) ∙ sym (q.1 []) ∙ e ∙ p.1 (closing z ∷ [])

      longer : spell_stmt b r ≡ spell_stmt a (closing z ∷ r)
      longer = q.1 r ∙ ap (λ q. q ++ r) more ∙ append_assoc (p.0) (closing z ∷ []) r ∙ sym (p.1 (closing z ∷ r))

form_of : Stmt → StmtForm
form_of (stmt f t x) = x

statement_in_front : (lo : Bool) (i : ℕ) (a b : Stmt) → FitsStmt a (inside true lo) i → FitsStmt b (inside true lo) i → (d : Tokens) → IsEnded is_else d → spell_stmt b [] ≡ spell_stmt a d → a ≡ b
statement_in_front lo i (stmt f t x) (stmt g u y) h j d n e =
    by (last_is x) (last_is y)
    (left_over (last_of y ++ []) (last_of x ++ d) (sym (ends_at lo y i (j.2) [] refl) ∙ ap (read_one i (refusing lo)) e ∙ ends_at lo x i (h.2) d (ended_else d n)))
  where
    a : Stmt
    a = stmt f t x

    b : Stmt
    b = stmt g u y

    none : d ≡ [] → a ≡ b
    none z = alike_stmts lo i a b h j (e ∙ ap (spell_stmt a) z)

    further : (z : Bool) → d ≡ closing z ∷ [] → a ≡ b
    further z p = absurd (no_further lo i a b h j z (e ∙ ap (spell_stmt a) p))

    by : (last_of x ≡ []) ⊎ ((z : Bool) × (last_of x ≡ closing z ∷ [])) → (last_of y ≡ []) ⊎ ((z : Bool) × (last_of y ≡ closing z ∷ [])) → last_of y ++ [] ≡ last_of x ++ d → a ≡ b
    by (inl p) (inl q) s = none (sym (ap (λ w. w ++ []) (sym q) ∙ s ∙ ap (λ w. w ++ d) p))
    by (inl p) (inr (z, q)) s = further z (sym (ap (λ w. w ++ []) (sym q) ∙ s ∙ ap (λ w. w ++ d) p))
    by (inr (z, p)) (inl q) s = absurd (nothing (closing z) d (ap (λ w. w ++ []) (sym q) ∙ s ∙ ap (λ w. w ++ d) p))
    by (inr (z, p)) (inr (v, q)) s = none (sym (tails (ap (λ w. w ++ []) (sym q) ∙ s ∙ ap (λ w. w ++ d) p)))

left_ended : (d n : Tokens) → IsEnded is_else (d ++ n) → IsEnded is_else d
left_ended [] n u = tt
left_ended (x ∷ d) n u = u

pub same_statement : SameFrontSameStatement
same_statement lo i a b h j m n e u v =
    shorter spell_stmt stop_stmt f_stmt (λ x. FitsStmt x (inside true lo) i) (IsEnded is_else) left_ended (λ a b h j d u e. statement_in_front lo i a b h j d u e) a b h j m n e u v
