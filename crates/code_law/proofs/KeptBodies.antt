-- Whole statements, blocks and items leave states that fit.
use Rattle.std.proofs.Common.{◌≡◌, refl, ◌∙◌, ap, subst, ℕ, suc, ◌≤◌, Bool, true, false, ◌∷◌, Option, arith, if◌then◌else◌}
use Rattle.std.proofs.lemmas.Bool.{false≢true}
use Rattle.js_token.specs.declared.token.TokenKind.{TokenKind}
use Rattle.js_token.specs.declared.token.TokenKind.TheVariants.{Punct}
use Rattle.js_token.specs.declared.punct.Punct.TheVariants.{OpenBrace, Semicolon, Assign}
use Rattle.js_grammar.specs.Words.{Bytes}
use Rattle.js_grammar.specs.TypeSpelling.{Tokens}
use Rattle.js_grammar.specs.Code.{Ex, ex, ExForm, function_ex, primary_rank, form_rank, no_link, Sig, function, Block, block, Stmts, Stmt, stmt, function_stmt, does, branches, loop, nested, Declaration, declares, simple, SimpleForm, Body, block_body, simple_body, branch, no_branch, more_branch, else_body, is_target}
use Rattle.js_grammar.specs.CodeSpelling.{spell_ex, spell_stmt, spell_body, spell_declaration, spell_function, spell_block, spell_simple}
use Rattle.js_grammar.specs.CodePlaces.{stop_ex, stop_ex_form, stop_elses, stop_sig, stop_function, stop_block, stop_stmt, stop_body, stop_declaration, stop_simple}
use Rattle.js_grammar.specs.CodeFits.{BeginsPlain, FitsEx, FitsExForm, FitsBranch, FitsFunction, FitsBlock, FitsStmt, FitsDeclaration, FitsSimple, FitsBody}
use Rattle.js_grammar.specs.Items.{ItemForm, Items, item, does_item, exports, export_declaration, export_function, export_default_function, declares_item, function_item, spell_items, spell_item_form, stop_item_form, IsTopForm, FitsItemForm, FitsItem}
use Rattle.code_law.specs.Frames.{FunctionKind, is_value, is_statement, is_default, plain_item, exported_item, default_item, Verb, returns, throws, assigns, evaluates, in_body, in_simple, in_if, in_else, in_loop, in_function, in_block, in_item, after_links, Stack, Step, fault, start_ex, start_sig, context}
use Rattle.code_law.specs.Bodies.{give_stmt, give_body, give_item, give_declaration, give_function, give_block, end_simple, verb_form, end_value}
use Rattle.code_law.proofs.States.{starts_plain, takes_ex, takes_statement, takes_block, takes_simple, takes_declaration, may_define, FitsTop, FitsNamed, FitsStack, FitsMode, FitsStep, Stands}
use Rattle.code_law.proofs.Stands.{begins_not}

pub start-of : (e : Ex) (i : ℕ) → FitsEx e i → start_ex e ≡ i
start-of (ex f t x) i h = h.0

abbrev pub takes_body_of : Stack → Bool
takes_body_of (in_if s bs a e ∷ k) = true
takes_body_of (in_else s bs ∷ k) = true
takes_body_of (in_loop s e ∷ k) = true
takes_body_of k = false

-- an expression that the mode after links holds
pub k_primary : (k : Stack) (i s : ℕ) (x : ExForm) → FitsStack k s → takes_ex k ≡ true → primary_rank ≤ form_rank x → FitsExForm x s → suc i ≡ stop_ex_form x s → FitsMode k (after_links (ex s (suc i) x) no_link) (suc i)
k_primary k i s x h t r f j = (h, t, (r, (refl, j, f), tt, j))

module _ (q p : Tokens) where
  abbrev Keeps : ℕ → Step → Type 0
  Keeps i s = FitsStep q p i s

  pub k_if : (b : Bool) (i : ℕ) (a : Step) → (b ≡ true → Keeps i a) → Keeps i (if b then a else fault)
  k_if true i a h = h refl
  k_if false i a h = tt

  pub k_stmt : (i : ℕ) (k : Stack) (y : Stmt) (a : ℕ) → takes_statement k ≡ true → FitsStack k a → FitsStmt y (context k) a → suc i ≡ stop_stmt y a → Stands p k (λ l. spell_stmt y l) → Keeps i (give_stmt k y)
  k_stmt i (in_block s ss ∷ k) y a t h f j d = ((h.1, h.0.0, (h.0.1, subst (FitsStmt y (context k)) (h.0.2) f), j ∙ ap (stop_stmt y) (h.0.2)), d.1)
  k_stmt i k y a t h f j d = absurd (false≢true t)

  pub k_body : (i : ℕ) (k : Stack) (b : Body) (a : ℕ) → takes_body_of k ≡ true → FitsStack k a → FitsBody b (context k) a → suc i ≡ stop_body b a → Stands p k (λ l. spell_body b l) → Keeps i (give_body (suc i) k b)
  k_body i (in_loop s e ∷ k) b a t h f j d =
      let z = suc (stop_ex e (suc (suc s))) in
      let g : suc i ≡ stop_body b z = j ∙ ap (stop_body b) (h.0.2) in
      k_stmt i k (stmt s (suc i) (loop e b)) s (h.0.0) (h.1) (refl, g, (h.0.1, subst (FitsBody b (context (in_loop s e ∷ k))) (h.0.2) f)) g (d.1)
  k_body i (in_if s bs c e ∷ k) b a t h f j d =
      let n : a ≡ suc (stop_ex e (suc (suc c))) = h.0.4 in
      let g : FitsBranch (branch c (suc i) e b) (context k) c = (refl, j ∙ ap (stop_body b) n, h.0.3, subst (FitsBody b (context k)) n f) in
      ((h.1, h.0.0, refl, (h.0.1, subst (FitsBranch (branch c (suc i) e b) (context k)) (h.0.2) g), j ∙ ap (stop_body b) n ∙ ap (λ c. stop_body b (suc (stop_ex e (suc (suc c))))) (h.0.2)), d.1)
  k_body i (in_else s no_branch ∷ k) b a t h f j d = absurd (false≢true (h.0.1))
  k_body i (in_else s (more_branch bs y) ∷ k) b a t h f j d =
      let x = more_branch bs y in
      let g : suc i ≡ stop_body b (stop_elses x s) = j ∙ ap (stop_body b) (h.0.3) in
      k_stmt i k (stmt s (suc i) (branches x (else_body b))) s (h.0.0) (h.1) (refl, g, (refl, h.0.2, subst (FitsBody b (context k)) (h.0.3) f)) g (d.1)
  k_body i k b a t h f j d = absurd (false≢true t)

  pub k_item : (i : ℕ) (k : Stack) (a : ℕ) (is : Items) (x : ItemForm) → FitsTop k a is → FitsItemForm x a → suc i ≡ stop_item_form x a → Stands p k (λ l. spell_items is (spell_item_form x l)) → Keeps i (give_item (suc i) k a is x)
  k_item i k a is x h f j d = ((h.0, (h.1, subst (FitsItem (item a (suc i) x)) (h.2) (refl, j, f)), j ∙ ap (stop_item_form x) (h.2)), d)

  pub k_declaration : (i : ℕ) (k : Stack) (s : ℕ) (y : Declaration) → takes_declaration k ≡ true → FitsStack k s → FitsDeclaration y s → i ≡ stop_declaration y s → Stands p k (λ l. spell_declaration y (Punct Semicolon ∷ l)) →
      Keeps i (give_declaration (suc i) k s y)
  k_declaration i (in_item a plain_item is ∷ k) s y t h f j d =
      k_item i k a is (declares_item y) (h.0.0) (subst (FitsDeclaration y) (h.0.1) f) (ap suc (j ∙ ap (stop_declaration y) (h.0.1))) (d.1)
  k_declaration i (in_item a exported_item is ∷ k) s y t h f j d =
      k_item i k a is (exports (export_declaration y)) (h.0.0) (subst (FitsDeclaration y) (h.0.1) f) (ap suc (j ∙ ap (stop_declaration y) (h.0.1))) (d.1)
  k_declaration i (in_item a default_item is ∷ k) s y t h f j d = absurd (false≢true t)
  k_declaration i (in_block z ss ∷ k) s y t h f j d = k_stmt i (in_block z ss ∷ k) (stmt s (suc i) (declares y)) s refl h (refl, ap suc j, f) (ap suc j) d
  k_declaration i k s y t h f j d = absurd (false≢true t)

  pub k_function : (i : ℕ) (k : Stack) (c : FunctionKind) (s : ℕ) (n : Option Bytes) (g : Sig) (b : Block) → may_define c k ≡ true → FitsStack k s → FitsNamed c n → FitsFunction (function s (suc i) n g b) s →
      Stands p k (λ l. spell_function (function s (suc i) n g b) l) → Keeps i (give_function (suc i) k c (function s (suc i) n g b))
  k_function i (in_item a plain_item is ∷ k) is_statement s n g b t h m f d =
      let y = function s (suc i) n g b in
      k_item i k a is (function_item y) (h.0.0) (m.1 refl, subst (FitsFunction y) (h.0.1) f) (f.1 ∙ ap (stop_function y) (h.0.1)) (d.1)
  k_function i (in_item a exported_item is ∷ k) is_statement s n g b t h m f d =
      let y = function s (suc i) n g b in
      k_item i k a is (exports (export_function y)) (h.0.0) (m.1 refl, subst (FitsFunction y) (h.0.1) f) (f.1 ∙ ap (stop_function y) (h.0.1)) (d.1)
  k_function i (in_item a default_item is ∷ k) is_statement s n g b t h m f d = absurd (false≢true t)
  k_function i (in_item a default_item is ∷ k) is_default s n g b t h m f d =
      let y = function s (suc i) n g b in
      k_item i k a is (exports (export_default_function y)) (h.0.0) (subst (FitsFunction y) (h.0.1) f) (f.1 ∙ ap (stop_function y) (h.0.1)) (d.1)
  k_function i (in_item a w is ∷ k) is_default s n g b t h m f d = absurd (false≢true t)
  k_function i (in_block z ss ∷ k) is_statement s n g b t h m f d =
      let y = function s (suc i) n g b in
      k_stmt i (in_block z ss ∷ k) (stmt s (suc i) (function_stmt y)) s refl h (refl, f.1, (m.1 refl, f)) (f.1) d
  k_function i k is_statement s n g b t h m f d = absurd (false≢true t)
  k_function i k is_default s n g b t h m f d = absurd (false≢true t)
  k_function i k is_value s n g b t h m f d =
      let r : 10 ≤ 10 = omega arith in (k_primary k i s (function_ex (function s (suc i) n g b)) h t r f (f.1), d)

  pub k_block : (i : ℕ) (k : Stack) (s : ℕ) (ss : Stmts) → takes_block k ≡ true → FitsStack k s → FitsBlock (block s (suc i) ss) (context k) s → Stands p k (λ l. spell_block (block s (suc i) ss) l) →
      Keeps i (give_block (suc i) k (block s (suc i) ss))
  k_block i (in_function c z n g ∷ k) s ss t h f d =
      let b = block s (suc i) ss in
      let j : suc i ≡ stop_block b _ = f.1 ∙ ap (stop_block b) (h.0.3) in
      k_function i k c z n g b (h.0.0) (h.1) (h.0.1) (refl, j, h.0.1.0, h.0.2, subst (FitsBlock b _) (h.0.3) f) (d.1)
  k_block i (in_body g ∷ k) s ss t h f d =
      let b = block s (suc i) ss in
      let j : suc i ≡ stop_block b (suc (stop_sig g (start_sig g))) = f.1 ∙ ap (stop_block b) (h.0.4) in
      ((h.1, h.0.0, h.0.1, (refl, j, (h.0.2, h.0.3, subst (FitsBlock b _) (h.0.4) f)), j), d.1)
  k_block i (in_block z rs ∷ k) s ss t h f d =
      let b = block s (suc i) ss in k_stmt i (in_block z rs ∷ k) (stmt s (suc i) (nested b)) s refl h (refl, f.1, f) (f.1) d
  k_block i (in_if z bs a e ∷ k) s ss t h f d = k_body i (in_if z bs a e ∷ k) (block_body (block s (suc i) ss)) s refl h f (f.1) d
  k_block i (in_else z bs ∷ k) s ss t h f d = k_body i (in_else z bs ∷ k) (block_body (block s (suc i) ss)) s refl h f (f.1) d
  k_block i (in_loop z e ∷ k) s ss t h f d = k_body i (in_loop z e ∷ k) (block_body (block s (suc i) ss)) s refl h f (f.1) d
  k_block i k s ss t h f d = absurd (false≢true t)

  -- the semicolon at i stands behind a simple statement
  pub k_end_simple : (i : ℕ) (k : Stack) (s : ℕ) (x : SimpleForm) (b : Bool) → takes_simple k b ≡ true → (b ≡ true → IsTopForm x) → FitsStack k s → FitsSimple (simple s i x) (context k) s →
      Stands p k (λ l. spell_simple (simple s i x) (Punct Semicolon ∷ l)) → Keeps i (end_simple i k (simple s i x))
  k_end_simple i (in_block z ss ∷ k) s x b t m h f d = k_stmt i (in_block z ss ∷ k) (stmt s (suc i) (does (simple s i x))) s refl h (refl, ap suc (f.1), f) (ap suc (f.1)) d
  k_end_simple i (in_item a plain_item is ∷ k) s x b t m h f d =
      let y = simple s i x in
      k_item i k a is (does_item y) (h.0.0) (m t, d.0, subst (FitsSimple y _) (h.0.1) f) (ap suc (f.1 ∙ ap (stop_simple y) (h.0.1))) (d.1)
  k_end_simple i (in_item a exported_item is ∷ k) s x b t m h f d = absurd (false≢true t)
  k_end_simple i (in_item a default_item is ∷ k) s x b t m h f d = absurd (false≢true t)
  k_end_simple i (in_if z bs a e ∷ k) s x b t m h f d = k_body i (in_if z bs a e ∷ k) (simple_body (simple s i x)) s refl h f (ap suc (f.1)) d
  k_end_simple i (in_else z bs ∷ k) s x b t m h f d = k_body i (in_else z bs ∷ k) (simple_body (simple s i x)) s refl h f (ap suc (f.1)) d
  k_end_simple i (in_loop z e ∷ k) s x b t m h f d = k_body i (in_loop z e ∷ k) (simple_body (simple s i x)) s refl h f (ap suc (f.1)) d
  k_end_simple i k s x b t m h f d = absurd (false≢true t)

  -- what stands at the head of a simple statement is plain
  plain_head : (e : Ex) (i : ℕ) (x : TokenKind) (k : Stack) (s : ℕ) → FitsEx e i → Stands p (in_simple s evaluates ∷ k) (λ l. spell_ex e (x ∷ l)) → BeginsPlain e
  plain_head e i x k s f d = (begins_not starts_plain e i f (λ l. x ∷ l) (d.0) (Punct OpenBrace) refl, begins_not starts_plain e i f (λ l. x ∷ l) (d.0) _ refl)

  -- the expression of a simple statement is whole
  pub k_end_value : (i : ℕ) (k : Stack) (s : ℕ) (v : Verb) (e : Ex) (z : ℕ) → FitsStack (in_simple s v ∷ k) z → FitsEx e z → i ≡ stop_ex e z → (x : TokenKind) → Stands p (in_simple s v ∷ k) (λ l. spell_ex e (x ∷ l)) →
      Keeps i (end_value i k s v e x)
  k_end_value i k s returns e z h f j (Punct Semicolon) d =
      let y = h.0.1.1 in k_end_simple i k s (verb_form returns e) false (h.0.0) (λ b. absurd (false≢true b)) (h.1) (refl, j ∙ ap (stop_ex e) y, (h.0.1.0, subst (FitsEx e) y f)) (d.1)
  k_end_value i k s throws e z h f j (Punct Semicolon) d =
      let y = h.0.1 in k_end_simple i k s (verb_form throws e) false (h.0.0) (λ b. absurd (false≢true b)) (h.1) (refl, j ∙ ap (stop_ex e) y, subst (FitsEx e) y f) (d.1)
  k_end_value i k s (assigns a) e z h f j (Punct Semicolon) d =
      let y = h.0.1.3 in
      k_end_simple i k s (verb_form (assigns a) e) true (h.0.0) (λ b. tt) (h.1) (refl, j ∙ ap (stop_ex e) y, (h.0.1.0, h.0.1.1, h.0.1.2, subst (FitsEx e) y f)) (d.1)
  k_end_value i k s evaluates e z h f j (Punct Semicolon) d =
      let y = h.0.1 in
      k_end_simple i k s (verb_form evaluates e) true (h.0.0) (λ b. tt) (h.1) (refl, j ∙ ap (stop_ex e) y, (plain_head e z (Punct Semicolon) k s f d, subst (FitsEx e) y f)) (d.1)
  k_end_value i k s evaluates e z h f j (Punct Assign) d =
      let y = h.0.1 in
      k_if (is_target e) i _ (λ b. ((((h.0.0, (b, plain_head e z (Punct Assign) k s f d, subst (FitsEx e) y f, ap suc (j ∙ ap (stop_ex e) y))), h.1), refl), (tt, d.1)))
  k_end_value i k s v e z h f j x d = tt
