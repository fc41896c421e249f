-- Each step of a statement keeps what its state stands for.
use Rattle.std.proofs.Common.{◌≡◌, refl, sym, ◌∙◌, ap, subst, ℕ, suc, Bool, true, false, ◌∷◌, if◌then◌else◌}
use Rattle.std.proofs.lemmas.Bool.{false≢true}
use Rattle.js_token.specs.Words.{is_reserved}
use Rattle.js_token.specs.declared.token.TokenKind.{TokenKind}
use Rattle.js_token.specs.declared.token.TokenKind.TheVariants.{Name, Punct}
use Rattle.js_token.specs.declared.punct.Punct.TheVariants.{OpenBrace, CloseBrace, OpenParen, Semicolon, Colon, Assign}
use Rattle.js_grammar.specs.Words.{Bytes}
use Rattle.js_grammar.specs.TypeSpelling.{Tokens}
use Rattle.js_grammar.specs.Code.{Binder, Stmts, more_stmt, stmt, Simple, simple, return_bare, break_loop, continue_loop, Branches, no_branch, more_branch, branches, no_else}
use Rattle.js_grammar.specs.CodeSpelling.{spell_branches, spell_elses}
use Rattle.js_grammar.specs.CodePlaces.{stop_branches}
use Rattle.js_grammar.specs.CodeFits.{Context, inside, InFunction, InLoop, FitsStmt}
use Rattle.code_law.specs.Frames.{returns, evaluates, in_simple, in_if, in_loop, in_else, in_block, in_item, plain_item, statements_start, after_binder, after_declared, after_return, after_simple, after_if, after_while, after_branch, after_else, Stack, fault, go, context, within_function, within_loop}
use Rattle.code_law.specs.Bodies.{end_simple}
use Rattle.code_law.specs.Statements.{StatementWord, binds, begins_function, if_word, else_word, while_word, return_word, throw_word, break_word, continue_word, plain_word, statement_word, simple_word, simple_step, block_word, statements_step, return_step, semicolon_step, binder_step, declared_step, if_step, while_step, body_step, is_else_word, is_else, end_branches, branch_step, after_else_word, else_step}
use Rattle.code_law.proofs.StatementWords.{IsStatement, statement_is}
use Rattle.code_law.proofs.Typing.{typing_at}
use Rattle.code_law.proofs.States.{spell_mode, is_plain_word, takes_body, takes_block, takes_simple, FitsStack, FitsMode, FitsStep, Stands}
use Rattle.code_law.proofs.KeptExpressions.{k_want}
use Rattle.code_law.proofs.KeptBodies.{k_if, k_block, k_end_simple}

in_function_of : (c : Context) → within_function c ≡ true → InFunction c
in_function_of (inside f l) e = e

in_loop_of : (c : Context) → within_loop c ≡ true → InLoop c
in_loop_of (inside f l) e = e

any_simple : (k : Stack) → takes_simple k false ≡ true → takes_simple k true ≡ true
any_simple (in_item a plain_item is ∷ k) t = refl
any_simple k t = t

pub body_block : (k : Stack) → takes_body k ≡ true → takes_block k ≡ true
body_block (in_if s bs a e ∷ k) t = refl
body_block (in_loop s e ∷ k) t = refl
body_block k t = absurd (false≢true t)

pub body_simple : (k : Stack) → takes_body k ≡ true → takes_simple k false ≡ true
body_simple (in_if s bs a e ∷ k) t = refl
body_simple (in_loop s e ∷ k) t = refl
body_simple k t = absurd (false≢true t)

is_else_is : (w : StatementWord) → is_else_word w ≡ true → w ≡ else_word
is_else_is else_word e = refl
is_else_is w e = absurd (false≢true e)

module _ (q p : Tokens) (i : ℕ) where
  k_simple_word : (k : Stack) → FitsStack k i → takes_simple k false ≡ true → (n : Bytes) (w : StatementWord) → statement_word n ≡ w → IsStatement w n → Stands p k (λ l. Name n ∷ l) → FitsStep q p i (simple_word i k n w)
  k_simple_word k h t n return_word d e s =
      k_if q p (within_function (context k)) i (go k (after_return i)) (λ c. ((h, t, in_function_of (context k) c, refl), subst (λ n. Stands p k (λ l. Name n ∷ l)) e s))
  k_simple_word k h t n throw_word d e s = ((((t, refl), h), refl), (tt, subst (λ n. Stands p k (λ l. Name n ∷ l)) e s))
  k_simple_word k h t n break_word d e s =
      k_if q p (within_loop (context k)) i (go k (after_simple (simple i (suc i) break_loop))) (λ c. ((h, t, (refl, refl, in_loop_of (context k) c), refl), subst (λ n. Stands p k (λ l. Name n ∷ l)) e s))
  k_simple_word k h t n continue_word d e s =
      k_if q p (within_loop (context k)) i (go k (after_simple (simple i (suc i) continue_loop))) (λ c. ((h, t, (refl, refl, in_loop_of (context k) c), refl), subst (λ n. Stands p k (λ l. Name n ∷ l)) e s))
  k_simple_word k h t n plain_word d e s = k_want q p i (in_simple i evaluates ∷ k) (Name n) ((any_simple k t, refl), h) refl ((Name n, ap is_plain_word d, λ l. (l, refl)), s)
  k_simple_word k h t n w d e s = tt

  k_simple_step : (k : Stack) → FitsStack k i → takes_simple k false ≡ true → (x : TokenKind) → Stands p k (λ l. x ∷ l) → FitsStep q p i (simple_step i k x)
  k_simple_step k h t (Name n) s = k_simple_word k h t n (statement_word n) refl (statement_is n) s
  k_simple_step k h t (Punct OpenBrace) s = tt
  k_simple_step k h t x s = k_want q p i (in_simple i evaluates ∷ k) x ((any_simple k t, refl), h) refl ((x, refl, λ l. (l, refl)), s)

  k_block_word : (k : Stack) (z : ℕ) (ss : Stmts) → FitsStack (in_block z ss ∷ k) i → (n : Bytes) (w : StatementWord) → statement_word n ≡ w → IsStatement w n → Stands p (in_block z ss ∷ k) (λ l. Name n ∷ l) →
      FitsStep q p i (block_word i (in_block z ss ∷ k) n w)
  k_block_word k z ss h n (binds w) d e s = ((h, refl, refl), subst (λ n. Stands p (in_block z ss ∷ k) (λ l. Name n ∷ l)) e s)
  k_block_word k z ss h n begins_function d e s = ((h, refl, refl), subst (λ n. Stands p (in_block z ss ∷ k) (λ l. Name n ∷ l)) e s)
  k_block_word k z ss h n if_word d e s = ((h, refl, tt, refl, refl), subst (λ n. Stands p (in_block z ss ∷ k) (λ l. Name n ∷ l)) e s)
  k_block_word k z ss h n while_word d e s = ((h, refl, refl), subst (λ n. Stands p (in_block z ss ∷ k) (λ l. Name n ∷ l)) e s)
  k_block_word k z ss h n w d e s = k_simple_word (in_block z ss ∷ k) h refl n w d e s

  pub k_statements : (k : Stack) (z : ℕ) (ss : Stmts) → FitsMode k (statements_start z ss) i → (x : TokenKind) → Stands p k (λ l. spell_mode (statements_start z ss) (x ∷ l)) → FitsStep q p i (statements_step i k z ss x)
  k_statements k z ss h (Punct CloseBrace) s = k_block q p i k z ss (h.1) (h.0) (refl, ap suc (h.3), h.2) s
  k_statements k z ss h (Punct OpenBrace) s = ((((h.1, h.2, h.3), h.0), refl, tt, refl), (tt, s))
  k_statements k z ss h (Name n) s = k_block_word k z ss ((h.1, h.2, h.3), h.0) n (statement_word n) refl (statement_is n) (tt, s)
  k_statements k z ss h x s = k_simple_step (in_block z ss ∷ k) ((h.1, h.2, h.3), h.0) refl x (tt, s)

  pub k_return : (k : Stack) (z : ℕ) → FitsMode k (after_return z) i → (x : TokenKind) → Stands p k (λ l. spell_mode (after_return z) (x ∷ l)) → FitsStep q p i (return_step i k z x)
  k_return k z h (Punct Semicolon) s = k_end_simple q p i k z return_bare false (h.1) (λ b. absurd (false≢true b)) (h.0) (refl, h.3, h.2) s
  k_return k z h x s = k_want q p i (in_simple z returns ∷ k) x ((h.1, (h.2, h.3)), h.0) refl (tt, s)

  pub k_semicolon : (k : Stack) (y : Simple) → FitsMode k (after_simple y) i → (x : TokenKind) → Stands p k (λ l. spell_mode (after_simple y) (x ∷ l)) → FitsStep q p i (semicolon_step i k y x)
  k_semicolon k (simple f t y) h (Punct Semicolon) s =
      subst (λ t. FitsStep q p i (end_simple i k (simple f t y))) (h.3 ∙ sym (h.2.1)) (k_end_simple q p i k f y false (h.1) (λ b. absurd (false≢true b)) (h.0) (refl, h.3, h.2.2) s)
  k_semicolon k y h _ s = tt

  pub k_binder : (k : Stack) (z : ℕ) (w : Binder) → FitsMode k (after_binder z w) i → (x : TokenKind) → Stands p k (λ l. spell_mode (after_binder z w) (x ∷ l)) → FitsStep q p i (binder_step k z w x)
  k_binder k z w h (Name n) s = by (is_reserved n) refl
    where
      by : (b : Bool) → is_reserved n ≡ b → FitsStep q p i (if b then fault else go k (after_declared z w n))
      by true e = tt
      by false e = ((h.0, h.1, e, ap suc (h.2)), s)
  k_binder k z w h _ s = tt

  pub k_declared : (k : Stack) (z : ℕ) (w : Binder) (n : Bytes) → FitsMode k (after_declared z w n) i → (x : TokenKind) → Stands p k (λ l. spell_mode (after_declared z w n) (x ∷ l)) → FitsStep q p i (declared_step k z w n x)
  k_declared k z w n h (Punct Colon) s = let y = typing_at true (suc (suc (suc z))) (suc i) (ap suc (h.3)) in (((h.0, h.1, h.2), y.0, y.1), s)
  k_declared k z w n h (Punct Assign) s = ((((h.1, h.2, tt, ap suc (h.3)), h.0), refl), (tt, s))
  k_declared k z w n h _ s = tt

  pub k_if_open : (k : Stack) (z : ℕ) (bs : Branches) (a : ℕ) → FitsMode k (after_if z bs a) i → (x : TokenKind) → Stands p k (λ l. spell_mode (after_if z bs a) (x ∷ l)) → FitsStep q p i (if_step k z bs a x)
  k_if_open k z bs a h (Punct OpenParen) s = ((((h.1, h.2, h.3, ap suc (h.4)), h.0), refl), (tt, s))
  k_if_open k z bs a h _ s = tt

  pub k_while_open : (k : Stack) (z : ℕ) → FitsMode k (after_while z) i → (x : TokenKind) → Stands p k (λ l. spell_mode (after_while z) (x ∷ l)) → FitsStep q p i (while_step k z x)
  k_while_open k z h (Punct OpenParen) s = ((((h.1, ap suc (h.2)), h.0), refl), (tt, s))
  k_while_open k z h _ s = tt

  pub k_body_start : (k : Stack) → FitsStack k i → takes_block k ≡ true → takes_simple k false ≡ true → (x : TokenKind) → Stands p k (λ l. x ∷ l) → FitsStep q p i (body_step i k x)
  k_body_start k h t u (Punct OpenBrace) s = ((h, t, tt, refl), s)
  k_body_start k h t u x s = k_simple_step k h u x s

  k_end_branches : (k : Stack) (z : ℕ) (bs : Branches) → FitsMode k (after_branch z bs) i → (x : TokenKind) → Stands p k (λ l. spell_mode (after_branch z bs) (x ∷ l)) → FitsStep q p i (end_branches i k z bs x)
  k_end_branches (in_block a ss ∷ k) z bs h x s =
      let y = stmt z i (branches bs no_else) in
      let e = h.0.0.2 in
      k_statements k a (more_stmt ss y) (h.0.1, h.0.0.0, (h.0.0.1, subst (FitsStmt y (context k)) e (refl, h.4, (h.2, h.3, tt))), h.4 ∙ ap (stop_branches bs) e) x (s.1)
  k_end_branches k z bs h x s = absurd (false≢true (h.1))

  k_is_else : (k : Stack) (z : ℕ) (bs : Branches) → FitsMode k (after_branch z bs) i → (x : TokenKind) → is_else x ≡ true → Stands p k (λ l. spell_mode (after_branch z bs) (x ∷ l)) → FitsStep q p i (go k (after_else z bs))
  k_is_else k z no_branch h x e s = absurd (false≢true (h.2))
  k_is_else k z (more_branch bs b) h (Name n) e s =
      ((h.0, h.1, refl, h.3, ap suc (h.4)), subst (λ n. Stands p k (λ l. spell_branches (more_branch bs b) (Name n ∷ l))) (subst (λ w. IsStatement w n) (is_else_is (statement_word n) e) (statement_is n)) s)
  k_is_else k z bs h x e s = absurd (false≢true e)

  pub k_branch : (k : Stack) (z : ℕ) (bs : Branches) → FitsMode k (after_branch z bs) i → (x : TokenKind) → Stands p k (λ l. spell_mode (after_branch z bs) (x ∷ l)) → FitsStep q p i (branch_step i k z bs x)
  k_branch k z bs h x s = by (is_else x) refl
    where
      by : (b : Bool) → is_else x ≡ b → FitsStep q p i (if b then go k (after_else z bs) else end_branches i k z bs x)
      by true e = k_is_else k z bs h x e s
      by false e = k_end_branches k z bs h x s

  k_else_word : (k : Stack) (z : ℕ) (bs : Branches) → FitsMode k (after_else z bs) i → (n : Bytes) (w : StatementWord) → statement_word n ≡ w → IsStatement w n → Stands p k (λ l. spell_mode (after_else z bs) (Name n ∷ l)) →
      FitsStep q p i (after_else_word i k z bs n w)
  k_else_word k z bs h n if_word d e s = ((h.0, h.1, h.3, h.4, refl), subst (λ n. Stands p k (λ l. spell_elses bs (Name n ∷ l))) e s)
  k_else_word k z bs h n w d e s = k_simple_word (in_else z bs ∷ k) ((h.1, h.2, h.3, h.4), h.0) refl n w d e (tt, s)

  pub k_else : (k : Stack) (z : ℕ) (bs : Branches) → FitsMode k (after_else z bs) i → (x : TokenKind) → Stands p k (λ l. spell_mode (after_else z bs) (x ∷ l)) → FitsStep q p i (else_step i k z bs x)
  k_else k z bs h (Name n) s = k_else_word k z bs h n (statement_word n) refl (statement_is n) s
  k_else k z bs h x s = k_body_start (in_else z bs ∷ k) ((h.1, h.2, h.3, h.4), h.0) refl refl x (tt, s)
