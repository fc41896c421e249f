-- Types inside expressions are read by the machine of types, as it stands.
use Rattle.std.proofs.Common.{◌≡◌, refl, ◌∙◌, ap, ℕ, suc, true, false, [], ◌∷◌}
use Rattle.js_token.specs.declared.token.TokenKind.{TokenKind}
use Rattle.js_grammar.specs.Types.{Ty, has_fun}
use Rattle.js_grammar.specs.TypeSpelling.{Tokens, spell}
use Rattle.js_grammar.specs.TypeFits.{stop, Fits}
use Rattle.js_grammar.specs.Machine as ty
use Rattle.js_grammar.specs.Machine.{first, end_mark}
use Rattle.js_grammar.specs.GoesOn.{goes_on_type}
use Rattle.js_grammar.proofs.Complete.{reads_spelling}
use Rattle.js_grammar.proofs.Kept.{FitsMode, FitsStep, kept}
use Rattle.code_law.specs.Frames.{Waiting, Stack, typing}
use Rattle.code_law.specs.Expressions.{after_type, takes_function, inside}
use Rattle.code_law.specs.Machine.{Outcome, faulty, resume, run, go_on}

module _ (z : ℕ) (k : Stack) (w : Waiting) where
  -- what reading a type that begins at z comes to
  abbrev pub continued : ty.Outcome → Outcome
  continued (ty.faulty l) = faulty l
  continued (ty.whole t l) = go_on (stop t z) (after_type (stop t z) k w t (first l)) l

  end_case : (i : ℕ) (s : ty.Step) → FitsStep (takes_function w) z i s → resume (λ k m. faulty []) (inside i k w s end_mark) [] ≡ continued (ty.resume (λ a m. ty.faulty []) s [])
  end_case i ty.fault h = refl
  end_case i (ty.go a m) h = refl
  end_case i (ty.done t) h = ap (λ j. go_on j (after_type j k w t end_mark) []) (h.1)

  token_case : (i : ℕ) (x : TokenKind) (l : Tokens) (s : ty.Step) → FitsStep (takes_function w) z i s →
      ((a : ty.Stack) (m : ty.Mode) → FitsMode (takes_function w) z a m (suc i) → run (suc i) k (typing w a m) l ≡ continued (ty.run (takes_function w) (suc i) a m l)) →
      resume (λ k m. run (suc i) k m l) (inside i k w s x) (x ∷ l) ≡ continued (ty.resume (λ a m. ty.run (takes_function w) (suc i) a m l) s (x ∷ l))
  token_case i x l ty.fault h r = refl
  token_case i x l (ty.go a m) h r = r a m h
  token_case i x l (ty.done t) h r = ap (λ j. go_on j (after_type j k w t x) (x ∷ l)) (h.1)

  -- the outer run is the inner run, and then the form that waits
  pub embedded : (l : Tokens) (i : ℕ) (a : ty.Stack) (m : ty.Mode) → FitsMode (takes_function w) z a m i → run i k (typing w a m) l ≡ continued (ty.run (takes_function w) i a m l)
  embedded [] i a m h = end_case i (ty.step (takes_function w) i a m end_mark) (kept (takes_function w) z a m i end_mark h)
  embedded (x ∷ l) i a m h = token_case i x l (ty.step (takes_function w) i a m x) (kept (takes_function w) z a m i x h) (λ a m g. embedded l (suc i) a m g)

  -- a type's spelling is read as that type
  pub c_type : (t : Ty) → Fits t z → (has_fun t ≡ true → takes_function w ≡ true) → (l : Tokens) → goes_on_type (takes_function w) (first l) ≡ false →
      run z k (typing w [] ty.want) (spell t l) ≡ go_on (stop t z) (after_type (stop t z) k w t (first l)) l
  c_type t h a l e = embedded (spell t l) z [] ty.want refl ∙ ap continued (reads_spelling (takes_function w) t z h a l e)
