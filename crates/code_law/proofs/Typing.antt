-- A type that is being read: the tokens of it so far lead to its state, and some more complete it.
use Rattle.std.proofs.Common.{◌≡◌, refl, sym, ◌∙◌, ap, subst, ℕ, suc, Bool, false, [], ◌∷◌, ◌++◌, append_assoc}
use Rattle.js_token.specs.declared.token.TokenKind.{TokenKind}
use Rattle.js_grammar.specs.Types.{Ty}
use Rattle.js_grammar.specs.TypeSpelling.{Tokens}
use Rattle.js_grammar.specs.Machine as ty
use Rattle.js_grammar.specs.Machine.{first}
use Rattle.js_grammar.specs.GoesOn.{goes_on_type}
use Rattle.js_grammar.proofs.Complete.{reads_spelling}
use Rattle.js_grammar.proofs.OneAnswer.{spelled_before}
use Rattle.js_grammar.proofs.Sound.{so_far, Follows, sound}
use Rattle.js_grammar.proofs.Kept.{FitsMode, FitsStep, kept}
use Rattle.js_grammar.proofs.Viable.{Completes as TypeCompletes, viable as type_viable}

-- The state of the machine of types to which some tokens lead from a place.
pub record Typing (can : Bool) (start i : ℕ) (a : ty.Stack) (m : ty.Mode) (q : Tokens) : Type 0 where
  pub fits : FitsMode can start a m i
  pub spelled : (w : Tokens) → so_far a m w ≡ q ++ w
  pub runs : (w : Tokens) → ty.run can start [] ty.want (q ++ w) ≡ ty.run can i a m w

-- a type may begin here
pub typing_at : (can : Bool) (z i : ℕ) → i ≡ z → (q : Tokens) × Typing can z i [] ty.want q
typing_at can z i e = ([], record { fits = e; spelled = λ w. refl; runs = λ w. ap (λ i. ty.run can i [] ty.want w) (sym e) })

module _ (can : Bool) (z : ℕ) where
  -- a step of the machine of types leads on
  pub keep_typing : (i : ℕ) (a : ty.Stack) (m : ty.Mode) (q : Tokens) (x : TokenKind) → Typing can z i a m q → (b : ty.Stack) (n : ty.Mode) → ty.step can i a m x ≡ ty.go b n → Typing can z (suc i) b n (q ++ x ∷ [])
  keep_typing i a m q x r b n e = record {
    fits = subst (FitsStep can z i) e (kept can z a m i x (r.fits));
    spelled = λ w. (subst (Follows (so_far a m) x) e (sound can i a m x)) w ∙ r.spelled (x ∷ w) ∙ sym (append_assoc q (x ∷ []) w);
    runs = λ w. ap (ty.run can z [] ty.want) (append_assoc q (x ∷ []) w) ∙ r.runs (x ∷ w) ∙ ap (λ s. ty.resume (λ k m. ty.run can (suc i) k m w) s (x ∷ w)) e;
  }

  -- some tokens make a type of what is read, whatever follows that doesn't go on it
  pub finish_typing : (i : ℕ) (a : ty.Stack) (m : ty.Mode) (q : Tokens) → Typing can z i a m q →
      (t : Ty) × (v : Tokens) × ((l : Tokens) → goes_on_type can (first l) ≡ false → ty.run can i a m (v ++ l) ≡ ty.whole t l)
  finish_typing i a m q r = let c : TypeCompletes can z (so_far a m) = type_viable can z a m i (r.fits) in (
    c.0,
    c.2,
    λ l e. sym (r.runs (c.2 ++ l)) ∙ ap (ty.run can z [] ty.want) (sym (append_assoc q (c.2) l) ∙ ap (λ w. w ++ l) (sym (r.spelled (c.2)) ∙ sym (c.3)) ∙ sym (spelled_before (c.0) l)) ∙ reads_spelling can (c.0) z (c.1.0) (c.1.1) l e,
  )
