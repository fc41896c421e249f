-- What reading up to the limit of nesting answers, in the words of the definition.
use Rattle.std.proofs.Common.{◌≡◌, refl, sym, ◌∙◌, ap, subst, ℕ, suc, ◌≤◌, Bool, true, false, [], ◌∷◌, ◌++◌}
use Rattle.js_token.specs.declared.token.TokenKind.{TokenKind}
use Rattle.js_grammar.specs.TypeSpelling.{Tokens}
use Rattle.js_grammar.specs.Nesting.{Nest, nest, no_nest, height, max_nesting, is_deep, StaysWithin}
use Rattle.js_grammar.proofs.Limit.{deep_not, shallow}
use Rattle.js_grammar.specs.Machine.{Stack, Mode, want, Step, fault, go, done, step, end_mark, run, resume, read_tokens, Outcome, faulty, whole}
use Rattle.js_grammar.specs.Reads.{Finds, Faults}
use Rattle.js_grammar.proofs.Main.{Says, reads_types}
use Rattle.type_parser.specs.Within.{run_within, read_within}

-- with more tokens left
abbrev onto : Tokens → Outcome → Outcome
onto b (whole t rest) = whole t (rest ++ b)
onto b (faulty rest) = faulty (rest ++ b)

end_onto : (can : Bool) (i : ℕ) (k : Stack) (m : Mode) (b : Tokens) (s : Step) → resume (λ k m. faulty b) s b ≡ onto b (resume (λ k m. faulty []) s [])
end_onto can i k m b fault = refl
end_onto can i k m b (go k' m') = refl
end_onto can i k m b (done t) = refl

-- the part of the tokens before the limit, from a state of the nesting on
record Cut (can : Bool) (n : Nest) (l : Tokens) : Type 0 where
  front : Tokens
  rest : Tokens
  parts : l ≡ front ++ rest
  within : StaysWithin n front
  past : (x : TokenKind) (r : Tokens) → rest ≡ x ∷ r → StaysWithin n (front ++ x ∷ []) → ⊥
  runs : (i : ℕ) (k : Stack) (m : Mode) → run_within can i n k m l ≡ onto rest (run can i k m front)

step_onto : (can : Bool) (i : ℕ) (n : Nest) (x : TokenKind) (l a b : Tokens) → l ≡ a ++ b → ((k : Stack) (m : Mode) → run_within can (suc i) n k m l ≡ onto b (run can (suc i) k m a)) → (s : Step) →
    resume (λ k m. run_within can (suc i) n k m l) s (x ∷ l) ≡ onto b (resume (λ k m. run can (suc i) k m a) s (x ∷ a))
step_onto can i n x l a b e h fault = ap (λ l. faulty (x ∷ l)) e
step_onto can i n x l a b e h (go k m) = h k m
step_onto can i n x l a b e h (done t) = ap (λ l. whole t (x ∷ l)) e

mutual_heads : {x y : TokenKind} {l r : Tokens} → x ∷ l ≡ y ∷ r → x ≡ y
mutual_heads e = cc

cut_at : (can : Bool) (n : Nest) (x : TokenKind) (l : Tokens) (b : Bool) → is_deep (nest n x) ≡ b → Cut can (nest n x) l → Cut can n (x ∷ l)
cut_at can n x l true e c = record {
  front = [];
  rest = x ∷ l;
  parts = refl;
  within = tt;
  past = λ y r j h. deep_not (nest n x) e (subst (λ z. height (nest n z) ≤ max_nesting) (sym (mutual_heads j)) (h.0));
  runs = λ i k m. rw e (end_onto can i k m (x ∷ l) (step can i k m end_mark));
}
cut_at can n x l false e c = record {
  front = x ∷ c.front;
  rest = c.rest;
  parts = ap (λ l. x ∷ l) (c.parts);
  within = (shallow (nest n x) e, c.within);
  past = λ y r j h. c.past y r j (h.1);
  runs = λ i k m. rw e (step_onto can i (nest n x) x l (c.front) (c.rest) (c.parts) (c.runs (suc i)) (step can i k m x));
}

cut : (can : Bool) (n : Nest) (l : Tokens) → Cut can n l
cut can n [] = record {
  front = [];
  rest = [];
  parts = refl;
  within = tt;
  past = λ x r j h. absurd (let f : [] ≡ x ∷ r = j in cc);
  runs = λ i k m. end_onto can i k m [] (step can i k m end_mark);
}
cut can n (x ∷ l) = cut_at can n x l (is_deep (nest n x)) refl (cut can (nest n x) l)

abbrev pub Tells : Bool → ℕ → Tokens → Outcome → Type 0
Tells can i l (whole t rest) = Finds can i l t rest
Tells can i l (faulty rest) = Faults can i l rest

tells_onto : (can : Bool) (i : ℕ) (a b : Tokens) (o : Outcome) → Says can i a b o → Tells can i (a ++ b) (onto b o)
tells_onto can i a b (whole t rest) h = h
tells_onto can i a b (faulty rest) h = h

-- what reading answers, for every list of tokens
pub tells_within : (can : Bool) (i : ℕ) (l : Tokens) → Tells can i l (read_within can i l)
tells_within can i l =
    let c = cut can no_nest l in
    subst (λ l. Tells can i l (read_within can i l)) (sym (c.parts))
    (subst (Tells can i (c.front ++ c.rest)) (sym (ap (read_within can i) (sym (c.parts)) ∙ c.runs i [] want))
    (tells_onto can i (c.front) (c.rest) (read_tokens can i (c.front)) (reads_types can i (c.front) (c.rest) (c.within, c.past))))
