-- What reading a module within the limit of nesting answers.
use Rattle.std.proofs.Common.{◌≡◌, refl, sym, ◌∙◌, ap, subst, ℕ, suc, ◌≤◌, Bool, true, false, [], ◌∷◌, ◌++◌, append_assoc, append-nil}
use Rattle.js_token.specs.declared.token.TokenKind.{TokenKind}
use Rattle.js_grammar.specs.TypeSpelling.{Tokens}
use Rattle.js_grammar.specs.Nesting.{Nest, nest, no_nest, height, max_nesting, is_deep, StaysWithin, WithinLimit}
use Rattle.js_grammar.proofs.Limit.{deep_not, shallow, stays_front}
use Rattle.js_grammar.specs.Machine.{end_mark}
use Rattle.js_grammar.specs.Items.{no_item}
use Rattle.code_law.specs.Frames.{Mode, items_start, Stack, Step, fault, go, done, done_items}
use Rattle.code_law.specs.Machine.{step, Outcome, faulty, whole, whole_items, resume, run, read_module}
use Rattle.code_law.specs.Reads.{Spells, IsStuck, IsFault, module_with, items_of, Says}
use Rattle.code_law.specs.Within.{run_within, read_within, IsStuckWithin, IsFaultWithin, SaysWithin, ReadsEachWithin, ReadsOnlyWithin}
use Rattle.code_law.proofs.Main.{each_module, only_modules}

-- what a run up to the limit is, where b stands behind it
abbrev onto : Tokens → Outcome → Outcome
onto [] o = o
onto (y ∷ b) (faulty r) = faulty (r ++ y ∷ b)
onto (y ∷ b) (whole e []) = faulty (y ∷ b)
onto (y ∷ b) (whole e (x ∷ r)) = whole e (x ∷ r ++ y ∷ b)
onto (y ∷ b) (whole_items is []) = faulty (y ∷ b)
onto (y ∷ b) (whole_items is (x ∷ r)) = whole_items is (x ∷ r ++ y ∷ b)

-- the part of the tokens before the limit, from a state of the nesting on
record Cut (n : Nest) (l : Tokens) : Type 0 where
  front : Tokens
  rest : Tokens
  parts : l ≡ front ++ rest
  within : StaysWithin n front
  past : (x : TokenKind) (r : Tokens) → rest ≡ x ∷ r → StaysWithin n (front ++ x ∷ []) → ⊥
  runs : (i : ℕ) (k : Stack) (m : Mode) → run_within i n k m l ≡ onto rest (run i k m front)

deep_onto : (x : TokenKind) (l : Tokens) (s : Step) → faulty (x ∷ l) ≡ onto (x ∷ l) (resume (λ k m. faulty []) s [])
deep_onto x l fault = refl
deep_onto x l (go k m) = refl
deep_onto x l (done e) = refl
deep_onto x l (done_items is) = refl

step_onto : (i : ℕ) (n : Nest) (x : TokenKind) (l a b : Tokens) → l ≡ a ++ b → ((k : Stack) (m : Mode) → run_within (suc i) n k m l ≡ onto b (run (suc i) k m a)) → (s : Step) →
    resume (λ k m. run_within (suc i) n k m l) s (x ∷ l) ≡ onto b (resume (λ k m. run (suc i) k m a) s (x ∷ a))
step_onto i n x l a [] e h fault = ap (λ l. faulty (x ∷ l)) (e ∙ append-nil a)
step_onto i n x l a (y ∷ b) e h fault = ap (λ l. faulty (x ∷ l)) e
step_onto i n x l a b e h (go k m) = h k m
step_onto i n x l a [] e h (done t) = ap (λ l. whole t (x ∷ l)) (e ∙ append-nil a)
step_onto i n x l a (y ∷ b) e h (done t) = ap (λ l. whole t (x ∷ l)) e
step_onto i n x l a [] e h (done_items is) = ap (λ l. whole_items is (x ∷ l)) (e ∙ append-nil a)
step_onto i n x l a (y ∷ b) e h (done_items is) = ap (λ l. whole_items is (x ∷ l)) e

heads : {x y : TokenKind} {l r : Tokens} → x ∷ l ≡ y ∷ r → x ≡ y
heads e = cc

cut_at : (n : Nest) (x : TokenKind) (l : Tokens) (b : Bool) → is_deep (nest n x) ≡ b → Cut (nest n x) l → Cut n (x ∷ l)
cut_at n x l true e c = record {
  front = [];
  rest = x ∷ l;
  parts = refl;
  within = tt;
  past = λ y r j h. deep_not (nest n x) e (subst (λ z. height (nest n z) ≤ max_nesting) (sym (heads j)) (h.0));
  runs = λ i k m. rw e (deep_onto x l (step i k m end_mark));
}
cut_at n x l false e c = record {
  front = x ∷ c.front;
  rest = c.rest;
  parts = ap (λ l. x ∷ l) (c.parts);
  within = (shallow (nest n x) e, c.within);
  past = λ y r j h. c.past y r j (h.1);
  runs = λ i k m. rw e (step_onto i (nest n x) x l (c.front) (c.rest) (c.parts) (c.runs (suc i)) (step i k m x));
}

cut : (n : Nest) (l : Tokens) → Cut n l
cut n [] = record {
  front = [];
  rest = [];
  parts = refl;
  within = tt;
  past = λ x r j h. absurd (let f : [] ≡ x ∷ r = j in cc);
  runs = λ i k m. refl;
}
cut n (x ∷ l) = cut_at n x l (is_deep (nest n x)) refl (cut (nest n x) l)

abbrev Past : Tokens → Tokens → Type 0
Past a b = (x : TokenKind) (r : Tokens) → b ≡ x ∷ r → WithinLimit (a ++ x ∷ []) → ⊥

stuck_all : (q r : Tokens) → IsStuck q r → IsStuckWithin q r
stuck_all q [] h = h
stuck_all q (x ∷ r) h = λ b. h (b.1)

fault_all : (a r : Tokens) → WithinLimit a → IsFault a r → IsFaultWithin a r
fault_all a r w h = (h.0, h.1, (stays_front (h.0) r no_nest (subst WithinLimit (h.1) w), h.2), stuck_all (h.0) r (h.3))

says_all : (a : Tokens) (o : Outcome) → WithinLimit a → Says a o → SaysWithin a o
says_all a (whole_items is []) w h = (w, h)
says_all a (whole_items is (x ∷ r)) w h = fault_all a (x ∷ r) w h
says_all a (faulty r) w h = fault_all a r w h
says_all a (whole e r) w h = h

stuck_past : (a q : Tokens) (y : TokenKind) (b r : Tokens) → Past a (y ∷ b) → a ≡ q ++ r → IsStuck q r → IsStuckWithin q (r ++ y ∷ b)
stuck_past a q y b [] p e h = λ c. p y b refl (subst (λ a. WithinLimit (a ++ y ∷ [])) (sym (e ∙ append-nil q)) (c.0))
stuck_past a q y b (x ∷ r) p e h = λ c. h (c.1)

fault_past : (a : Tokens) (y : TokenKind) (b r : Tokens) → WithinLimit a → Past a (y ∷ b) → IsFault a r → IsFaultWithin (a ++ y ∷ b) (r ++ y ∷ b)
fault_past a y b r w p h = (
  h.0,
  ap (λ a. a ++ y ∷ b) (h.1) ∙ append_assoc (h.0) r (y ∷ b),
  (stays_front (h.0) r no_nest (subst WithinLimit (h.1) w), h.2),
  stuck_past a (h.0) y b r p (h.1) (h.3),
)

says_past : (a : Tokens) (y : TokenKind) (b : Tokens) (o : Outcome) → WithinLimit a → Past a (y ∷ b) → Says a o → SaysWithin (a ++ y ∷ b) (onto (y ∷ b) o)
says_past a y b (whole_items is []) w p h =
    (a, refl, (w, (module_with is, [], subst (Spells (module_with is)) (sym (append-nil a)) h)), λ c. p y b refl (c.0))
says_past a y b (whole_items is (x ∷ r)) w p h = fault_past a y b (x ∷ r) w p h
says_past a y b (faulty r) w p h = fault_past a y b r w p h
says_past a y b (whole e r) w p h = absurd h

says : (a b : Tokens) (o : Outcome) → WithinLimit a → Past a b → Says a o → SaysWithin (a ++ b) (onto b o)
says a [] o w p h = subst (λ l. SaysWithin l o) (sym (append-nil a)) (says_all a o w h)
says a (y ∷ b) o w p h = says_past a y b o w p h

pub only_within : ReadsOnlyWithin
only_within l =
    let c = cut no_nest l in
    let r : read_within l ≡ onto (c.rest) (read_module (c.front)) = c.runs 0 [] (items_start no_item) in
    subst (SaysWithin l) (sym r) (subst (λ l. SaysWithin l (onto (c.rest) (read_module (c.front)))) (sym (c.parts)) (says (c.front) (c.rest) (read_module (c.front)) (c.within) (c.past) (only_modules (c.front))))

pub each_within : ReadsEachWithin
each_within m l w h = by (c.front) (c.rest) (c.parts) (c.past) (c.runs 0 [] (items_start no_item))
  where
    c : Cut no_nest l
    c = cut no_nest l

    by : (a b : Tokens) → l ≡ a ++ b → Past a b → read_within l ≡ onto b (read_module a) → read_within l ≡ whole_items (items_of m) []
    by a [] e p r = r ∙ each_module m a (subst (Spells m) (e ∙ append-nil a) h)
    by a (y ∷ b) e p r = absurd (p y b refl (stays_front (a ++ y ∷ []) b no_nest (subst WithinLimit (e ∙ sym (append_assoc a (y ∷ []) b)) w)))
