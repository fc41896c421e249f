-- How statements begin, and what the words before them say.
use Rattle.std.proofs.Common.{◌≡◌, refl, sym, ◌∙◌, ap, subst, ◌⊎◌, inl, inr, ℕ, suc, Bool, true, false, ◌∷◌, codes}
use Rattle.std.proofs.lemmas.Bool.{false≢true}
use Rattle.js_token.specs.declared.token.TokenKind.{TokenKind}
use Rattle.js_token.specs.declared.token.TokenKind.TheVariants.{Name, Number, Str, Punct}
use Rattle.js_token.specs.declared.punct.Punct.TheVariants.{OpenBrace, CloseBrace, Semicolon, Assign}
use Rattle.js_grammar.specs.Words.{Bytes}
use Rattle.js_grammar.specs.TypeSpelling.{Tokens}
use Rattle.js_grammar.specs.Machine.{first}
use Rattle.js_grammar.specs.Code.{const, let_word, Ex, function, Block, block, Stmts, no_stmt, Stmt, stmt, declares, function_stmt, does, branches, loop, nested, declaration, Simple, simple, return_bare, return_value, throw_value, break_loop, continue_loop, assign, evaluate, block_body, simple_body, branch, Branches, no_branch, more_branch}
use Rattle.js_grammar.specs.CodeSpelling.{spell_ex, spell_stmt, spell_branch, spell_elses, spell_else}
use Rattle.js_grammar.specs.CodeFits.{Context, BeginsNot, BeginsPlain, FitsEx, FitsStmt}
use Rattle.code_law.specs.Frames.{returns, evaluates, in_simple, in_else, in_block, Mode, want, statements_start, after_return, want_body, after_else, Stack, go}
use Rattle.code_law.specs.Bodies.{give_body, give_block, end_simple}
use Rattle.code_law.specs.Expressions.{want_step}
use Rattle.code_law.specs.Statements.{StatementWord, binds, begins_function, if_word, else_word, while_word, return_word, throw_word, break_word, continue_word, plain_word, statement_word, simple_word, simple_step, block_word, is_else_word, is_else, after_else_word}
use Rattle.code_law.specs.Machine.{step, run}
use Rattle.code_law.proofs.Begins.{is_plain, opens_mark, opens, Starts, loose, starts_loose, leads, begin_with}

-- the words with which a simple statement may begin
abbrev pub is_simple : StatementWord → Bool
is_simple return_word = true
is_simple throw_word = true
is_simple break_word = true
is_simple continue_word = true
is_simple plain_word = true
is_simple w = false

abbrev pub begins_simple : TokenKind → Bool
begins_simple (Name n) = is_simple (statement_word n)
begins_simple (Number n) = true
begins_simple (Str n) = true
begins_simple (Punct OpenBrace) = false
begins_simple (Punct p) = opens_mark p

-- the mode reads a simple statement's first token as one under that stack
abbrev pub TakesSimple : ℕ → Stack → Mode → Stack → Type 0
TakesSimple i k m a = (x : TokenKind) → begins_simple x ≡ true → step i k m x ≡ simple_step i a x

simple_block : (w : StatementWord) (i : ℕ) (k : Stack) (n : Bytes) → is_simple w ≡ true → block_word i k n w ≡ simple_word i k n w
simple_block (binds b) i k n h = absurd (false≢true h)
simple_block begins_function i k n h = absurd (false≢true h)
simple_block if_word i k n h = absurd (false≢true h)
simple_block while_word i k n h = absurd (false≢true h)
simple_block w i k n h = refl

simple_else : (w : StatementWord) (i : ℕ) (k : Stack) (s : ℕ) (bs : Branches) (n : Bytes) → is_simple w ≡ true → after_else_word i k s bs n w ≡ simple_word i (in_else s bs ∷ k) n w
simple_else if_word i k s bs n h = absurd (false≢true h)
simple_else w i k s bs n h = refl

pub takes_statement : (i : ℕ) (k : Stack) (s : ℕ) (ss : Stmts) → TakesSimple i k (statements_start s ss) (in_block s ss ∷ k)
takes_statement i k s ss (Name n) h = simple_block (statement_word n) i (in_block s ss ∷ k) n h
takes_statement i k s ss (Punct CloseBrace) h = absurd (false≢true h)
takes_statement i k s ss (Punct OpenBrace) h = absurd (false≢true h)
takes_statement i k s ss x h = refl

pub takes_body : (i : ℕ) (k : Stack) → TakesSimple i k want_body k
takes_body i k (Punct OpenBrace) h = absurd (false≢true h)
takes_body i k x h = refl

takes_else : (i : ℕ) (k : Stack) (s : ℕ) (bs : Branches) → TakesSimple i k (after_else s bs) (in_else s bs ∷ k)
takes_else i k s bs (Name n) h = simple_else (statement_word n) i k s bs n h
takes_else i k s bs (Punct OpenBrace) h = absurd (false≢true h)
takes_else i k s bs x h = refl

-- a mode that reads a body under a stack, which waits for one
abbrev pub TakesBody : ℕ → Stack → Mode → Stack → Type 0
TakesBody i k m a =
    TakesSimple i k m a × (step i k m (Punct OpenBrace) ≡ go a (statements_start i no_stmt)) × ((z : ℕ) (b : Block) → give_block z a b ≡ give_body z a (block_body b))
    × ((z : ℕ) (y : Simple) → end_simple z a y ≡ give_body (suc z) a (simple_body y))

pub body_taken : (i : ℕ) (k : Stack) → ((z : ℕ) (b : Block) → give_block z k b ≡ give_body z k (block_body b)) → ((z : ℕ) (y : Simple) → end_simple z k y ≡ give_body (suc z) k (simple_body y)) → TakesBody i k want_body k
body_taken i k f g = (takes_body i k, refl, f, g)

pub else_taken : (i : ℕ) (k : Stack) (s : ℕ) (bs : Branches) → TakesBody i k (after_else s bs) (in_else s bs ∷ k)
else_taken i k s bs = (takes_else i k s bs, refl, λ z b. refl, λ z y. refl)

plain_only : (w : StatementWord) → is_plain w ≡ true → w ≡ plain_word
plain_only plain_word h = refl
plain_only w h = absurd (false≢true h)

-- an expression's first token is a brace, or begins a simple statement that is evaluated
simple_or : (x : TokenKind) → opens x ≡ true → (x ≡ Punct OpenBrace) ⊎ ((begins_simple x ≡ true) × ((i : ℕ) (k : Stack) → simple_step i k x ≡ want_step i (in_simple i evaluates ∷ k) x))
simple_or (Name n) h = inr (ap is_simple (plain_only (statement_word n) h), λ i k. ap (simple_word i k n) (plain_only (statement_word n) h))
simple_or (Number n) h = inr (refl, λ i k. refl)
simple_or (Str n) h = inr (refl, λ i k. refl)
simple_or (Punct OpenBrace) h = inl refl
simple_or (Punct p) h = inr (h, λ i k. refl)

pub begin_evaluate : (e : Ex) (i : ℕ) → FitsEx e i → BeginsPlain e → (k a : Stack) (m : Mode) → TakesSimple i k m a → (l : Tokens) → run i k m (spell_ex e l) ≡ run i (in_simple i evaluates ∷ a) want (spell_ex e l)
begin_evaluate e i h p k a m t l = begin_with e i h i k (in_simple i evaluates ∷ a) m (λ x s. start x s) l
  where
    take : (x : TokenKind) → (x ≡ Punct OpenBrace) ⊎ ((begins_simple x ≡ true) × ((i : ℕ) (k : Stack) → simple_step i k x ≡ want_step i (in_simple i evaluates ∷ k) x)) →
        BeginsNot x e ⊎ (step i k m x ≡ want_step i (in_simple i evaluates ∷ a) x)
    take x (inl q) = inl (subst (λ x. BeginsNot x e) (sym q) (p.0))
    take x (inr q) = inr (t x (q.0) ∙ q.1 i a)

    start : (x : TokenKind) → Starts x → BeginsNot x e ⊎ (step i k m x ≡ want_step i (in_simple i evaluates ∷ a) x)
    start x (inr q) = inl (subst (λ x. BeginsNot x e) (sym q) (p.1))
    start x (inl o) = take x (simple_or x o)

return_opens : (x : TokenKind) → loose x ≡ true → (i : ℕ) (k : Stack) (s : ℕ) → step i k (after_return s) x ≡ want_step i (in_simple s returns ∷ k) x
return_opens (Punct Semicolon) h i k s = absurd (false≢true h)
return_opens x h i k s = refl

pub begin_return : (e : Ex) (i : ℕ) → FitsEx e i → (k : Stack) (s : ℕ) (l : Tokens) → run i k (after_return s) (spell_ex e l) ≡ run i (in_simple s returns ∷ k) want (spell_ex e l)
begin_return e i h k s l = begin_with e i h i k (in_simple s returns ∷ k) (after_return s) (λ x o. inr (return_opens x (starts_loose x o) i k s)) l

-- no statement begins with `else`

plain_else : (w : StatementWord) → is_plain w ≡ true → is_else_word w ≡ false
plain_else else_word h = absurd (false≢true h)
plain_else w h = refl

start_else : (x : TokenKind) → Starts x → is_else x ≡ false
start_else (Name n) (inl h) = plain_else (statement_word n) h
start_else x (inr e) = ap is_else e
start_else x (inl h) = refl

ex_else : (e : Ex) (i : ℕ) → FitsEx e i → (l : Tokens) → is_else (first (spell_ex e l)) ≡ false
ex_else e i h l = let d = leads e i h in ap (λ l. is_else (first l)) ((d.2 l).1) ∙ start_else (d.0) (d.1)

elses_else : (bs : Branches) (l : Tokens) → is_else (first l) ≡ false → is_else (first (spell_elses bs l)) ≡ false
elses_else no_branch l h = h
elses_else (more_branch bs (branch f t e b)) l h = elses_else bs (spell_branch (branch f t e b) (Name (codes "else") ∷ l)) refl

pub stmt_else : (y : Stmt) (c : Context) (i : ℕ) → FitsStmt y c i → (l : Tokens) → is_else (first (spell_stmt y l)) ≡ false
stmt_else (stmt f t (declares (declaration a z const n v e))) c i h l = refl
stmt_else (stmt f t (declares (declaration a z let_word n v e))) c i h l = refl
stmt_else (stmt f t (function_stmt (function a z n g b))) c i h l = refl
stmt_else (stmt f t (does (simple a z return_bare))) c i h l = refl
stmt_else (stmt f t (does (simple a z (return_value e)))) c i h l = refl
stmt_else (stmt f t (does (simple a z (throw_value e)))) c i h l = refl
stmt_else (stmt f t (does (simple a z break_loop))) c i h l = refl
stmt_else (stmt f t (does (simple a z continue_loop))) c i h l = refl
stmt_else (stmt f t (does (simple a z (assign d e)))) c i h l = ex_else d i (h.2.2.2) (Punct Assign ∷ spell_ex e (Punct Semicolon ∷ l))
stmt_else (stmt f t (does (simple a z (evaluate e)))) c i h l = ex_else e i (h.2.2.1) (Punct Semicolon ∷ l)
stmt_else (stmt f t (branches no_branch e)) c i h l = absurd (false≢true (h.2.0))
stmt_else (stmt f t (branches (more_branch bs (branch a z d b)) e)) c i h l = elses_else bs (spell_branch (branch a z d b) (spell_else e l)) refl
stmt_else (stmt f t (loop e b)) c i h l = refl
stmt_else (stmt f t (nested (block a z ss))) c i h l = refl
