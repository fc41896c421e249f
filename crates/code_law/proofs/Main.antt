-- Reading answers a module exactly where one stands, and else the place of the fault.
use Rattle.std.proofs.Common.{◌≡◌, refl, sym, ◌∙◌, ap, subst, ℕ, suc, [], ◌∷◌, ◌++◌, append_assoc, append-nil}
use Rattle.js_token.specs.declared.token.TokenKind.{TokenKind}
use Rattle.js_grammar.specs.TypeSpelling.{Tokens}
use Rattle.js_grammar.specs.Machine.{end_mark}
use Rattle.js_grammar.specs.Code.{Ex}
use Rattle.js_grammar.specs.Items.{Items, no_item, Module, module_of, spell_items, FitsItems}
use Rattle.code_law.specs.Frames.{Mode, items_start, Stack, Step, fault, go, done, done_items}
use Rattle.code_law.specs.Machine.{step, faulty, whole, whole_items, resume, run, read_module}
use Rattle.code_law.specs.Reads.{Spells, Begins, module_with, items_of, Says, ReadsEachModule, ReadsOnlyModules}
use Rattle.code_law.proofs.Modules.{reads_items}
use Rattle.code_law.proofs.States.{spell_mode, FitsMode, FitsStep, Stands}
use Rattle.code_law.proofs.Stands.{stands_more}
use Rattle.code_law.proofs.Kept.{kept}
use Rattle.code_law.proofs.Shapes.{shape}
use Rattle.code_law.proofs.Closing.{Completes}
use Rattle.code_law.proofs.Viable.{viable}

not_whole : (l : Tokens) (is : Items) (r : Tokens) → faulty l ≡ whole_items is r → ⊥
not_whole l is r e = cc

no_value : (e : Ex) (l : Tokens) (is : Items) (r : Tokens) → whole e l ≡ whole_items is r → ⊥
no_value e l is r f = cc

no_rest : (is js : Items) (x : TokenKind) (l : Tokens) → whole_items is (x ∷ l) ≡ whole_items js [] → ⊥
no_rest is js x l e = cc

same_items : (is js : Items) (l r : Tokens) → whole_items is l ≡ whole_items js r → is ≡ js
same_items is js l r e = cc

pub each_module : ReadsEachModule
each_module (module_of f t is) l h = ap read_module (sym (h.1)) ∙ reads_items is (h.0.2)

-- the state stands for the tokens q, up to the place i
abbrev Good : Tokens → ℕ → Stack → Mode → Type 0
Good q i k m = FitsMode k m i × Stands q k (spell_mode m)

good_step : (q : Tokens) (i : ℕ) (k : Stack) (m : Mode) (x : TokenKind) → Good q i k m → FitsStep q (q ++ x ∷ []) i (step i k m x)
good_step q i k m x g = kept q (q ++ x ∷ []) i k x m (g.0) (g.1) (stands_more q x k (spell_mode m) (g.1))

good_go : (q : Tokens) (i : ℕ) (k : Stack) (m : Mode) (x : TokenKind) (d : Stack) (n : Mode) → Good q i k m → step i k m x ≡ go d n → Good (q ++ x ∷ []) (suc i) d n
good_go q i k m x d n g e = subst (FitsStep q (q ++ x ∷ []) i) e (good_step q i k m x g)

good_end : (q : Tokens) (i : ℕ) (k : Stack) (m : Mode) (x : TokenKind) (is : Items) → Good q i k m → step i k m x ≡ done_items is → FitsItems is 0 × (spell_items is [] ≡ q)
good_end q i k m x is g e = let r : FitsStep q (q ++ x ∷ []) i (done_items is) = subst (FitsStep q (q ++ x ∷ []) i) e (good_step q i k m x g) in (r.0, r.2 [] ∙ append-nil q)

-- what a run answers fits, and its spelling is all the tokens
abbrev Fitting : Tokens → Items → Type 0
Fitting l is = FitsItems is 0 × (spell_items is [] ≡ l)

finish_end : (q : Tokens) (i : ℕ) (k : Stack) (m : Mode) → Good q i k m → (is : Items) (s : Step) → step i k m end_mark ≡ s → resume (λ k m. faulty []) s [] ≡ whole_items is [] → Fitting (q ++ []) is
finish_end q i k m g is fault e f = absurd (not_whole [] is [] f)
finish_end q i k m g is (go d n) e f = absurd (not_whole [] is [] f)
finish_end q i k m g is (done u) e f = absurd (no_value u [] is [] f)
finish_end q i k m g is (done_items js) e f = let r = good_end q i k m end_mark js g e in subst (Fitting (q ++ [])) (same_items js is [] [] f) (r.0, r.1 ∙ sym (append-nil q))

finish_token : (q : Tokens) (i : ℕ) (k : Stack) (m : Mode) → Good q i k m → (is : Items) (x : TokenKind) (w : Tokens) →
    ((q : Tokens) (i : ℕ) (k : Stack) (m : Mode) → Good q i k m → (is : Items) → run i k m w ≡ whole_items is [] → Fitting (q ++ w) is) →
    (s : Step) → step i k m x ≡ s → resume (λ k m. run (suc i) k m w) s (x ∷ w) ≡ whole_items is [] → Fitting (q ++ x ∷ w) is
finish_token q i k m g is x w ih fault e f = absurd (not_whole (x ∷ w) is [] f)
finish_token q i k m g is x w ih (go d n) e f = subst (λ l. Fitting l is) (append_assoc q (x ∷ []) w) (ih (q ++ x ∷ []) (suc i) d n (good_go q i k m x d n g e) is f)
finish_token q i k m g is x w ih (done u) e f = absurd (no_value u (x ∷ w) is [] f)
finish_token q i k m g is x w ih (done_items js) e f = absurd (no_rest js is x w f)

finishes : (w q : Tokens) (i : ℕ) (k : Stack) (m : Mode) → Good q i k m → (is : Items) → run i k m w ≡ whole_items is [] → Fitting (q ++ w) is
finishes [] q i k m g is f = finish_end q i k m g is (step i k m end_mark) refl f
finishes (x ∷ w) q i k m g is f = finish_token q i k m g is x w (finishes w) (step i k m x) refl f

-- the state that the tokens q lead to, up to the place i
record Reached (q : Tokens) (i : ℕ) (k : Stack) (m : Mode) : Type 0 where
  good : Good q i k m
  runs : (w : Tokens) → read_module (q ++ w) ≡ run i k m w

begins : (q : Tokens) (i : ℕ) (k : Stack) (m : Mode) → Reached q i k m → Begins q
begins q i k m r =
    let c : Completes i k m = viable k m i (shape k m i (r.good.0)) in
    let f = finishes (c.0) q i k m (r.good) (c.1) (c.2) in
    (module_with (c.1), c.0, ((refl, refl, f.0), f.1))

past : (q : Tokens) (i : ℕ) (k : Stack) (m : Mode) → Reached q i k m → (x : TokenKind) → ((w : Tokens) (is : Items) → run i k m (x ∷ w) ≡ whole_items is [] → ⊥) → Begins (q ++ x ∷ []) → ⊥
past q i k m r x never b = never (b.1) (items_of (b.0)) (sym (r.runs (x ∷ b.1)) ∙ ap read_module (sym (append_assoc q (x ∷ []) (b.1))) ∙ each_module (b.0) ((q ++ x ∷ []) ++ b.1) (b.2))

no_module : (q : Tokens) (i : ℕ) (k : Stack) (m : Mode) → Reached q i k m → ((is : Items) → run i k m [] ≡ whole_items is [] → ⊥) → (t : Module) → Spells t q → ⊥
no_module q i k m r never t h = never (items_of t) (sym (r.runs []) ∙ ap read_module (append-nil q) ∙ each_module t q h)

at_end : (q : Tokens) (i : ℕ) (k : Stack) (m : Mode) → Reached q i k m → (s : Step) → step i k m end_mark ≡ s → FitsStep q (q ++ end_mark ∷ []) i s → Says (q ++ []) (resume (λ k m. faulty []) s [])
at_end q i k m r fault e h = (q, refl, begins q i k m r, no_module q i k m r (λ is f. not_whole [] is [] (sym (ap (λ s. resume (λ k m. faulty []) s []) e) ∙ f)))
at_end q i k m r (go d n) e h = (q, refl, begins q i k m r, no_module q i k m r (λ is f. not_whole [] is [] (sym (ap (λ s. resume (λ k m. faulty []) s []) e) ∙ f)))
at_end q i k m r (done u) e h = h
at_end q i k m r (done_items is) e h = let g = good_end q i k m end_mark is (r.good) e in ((refl, refl, g.0), g.1 ∙ sym (append-nil q))

at_token : (q : Tokens) (i : ℕ) (k : Stack) (m : Mode) → Reached q i k m → (x : TokenKind) (l : Tokens) → ((q : Tokens) (i : ℕ) (k : Stack) (m : Mode) → Reached q i k m → Says (q ++ l) (run i k m l)) →
    (s : Step) → step i k m x ≡ s → FitsStep q (q ++ x ∷ []) i s → Says (q ++ x ∷ l) (resume (λ k m. run (suc i) k m l) s (x ∷ l))
at_token q i k m r x l ih fault e h =
    (q, refl, begins q i k m r, past q i k m r x (λ w is f. not_whole (x ∷ w) is [] (sym (ap (λ s. resume (λ k m. run (suc i) k m w) s (x ∷ w)) e) ∙ f)))
at_token q i k m r x l ih (go d n) e h =
    subst (λ z. Says z (run (suc i) d n l)) (append_assoc q (x ∷ []) l)
    (ih (q ++ x ∷ []) (suc i) d n (record {
      good = good_go q i k m x d n (r.good) e;
      runs = λ w. ap read_module (append_assoc q (x ∷ []) w) ∙ r.runs (x ∷ w) ∙ ap (λ s. resume (λ k m. run (suc i) k m w) s (x ∷ w)) e;
    }))
at_token q i k m r x l ih (done u) e h = absurd h
at_token q i k m r x l ih (done_items js) e h =
    (q, refl, begins q i k m r, past q i k m r x (λ w is f. no_rest js is x w (sym (ap (λ s. resume (λ k m. run (suc i) k m w) s (x ∷ w)) e) ∙ f)))

reads : (l q : Tokens) (i : ℕ) (k : Stack) (m : Mode) → Reached q i k m → Says (q ++ l) (run i k m l)
reads [] q i k m r = at_end q i k m r (step i k m end_mark) refl (good_step q i k m end_mark (r.good))
reads (x ∷ l) q i k m r = at_token q i k m r x l (reads l) (step i k m x) refl (good_step q i k m x (r.good))

pub only_modules : ReadsOnlyModules
only_modules l = reads l [] 0 [] (items_start no_item) (record { good = ((tt, tt, refl), λ l. refl); runs = λ w. refl })
