-- Each list of tokens has an answer, and one only.
use Rattle.std.proofs.Common.{◌≡◌, refl, sym, ◌∙◌, ap, subst, ℕ, zero, suc, ◌+◌, ◌≤◌, ◌<◌, ◌⊎◌, arith, [], ◌∷◌, ◌++◌, length, take, drop, append_assoc, append-nil, inl, inr}
use Rattle.std.proofs.lemmas.Bool.{cases_order}
use Rattle.std.proofs.lemmas.List.{take-append-drop, length-append}
use Rattle.std.proofs.Math.Seq.{take-append_seam, take-append-add}
use Rattle.std.proofs.Math.Nat.{eq-or-lt_of_le}
use Rattle.js_grammar.specs.TypeSpelling.{Tokens}
use Rattle.js_grammar.specs.Nesting.{no_nest, WithinLimit}
use Rattle.js_grammar.proofs.Limit.{stays_front}
use Rattle.js_grammar.specs.Items.{Module}
use Rattle.code_law.specs.Law.{SameSpellingSameModule}
use Rattle.code_law.specs.Machine.{Outcome, faulty, whole as whole_ex, whole_items}
use Rattle.code_law.specs.Reads.{module_with}
use Rattle.code_law.specs.Within.{read_within, SaysWithin, IsFaultWithin, IsStuckWithin}
use Rattle.code_law.proofs.Within.{only_within}
use Rattle.module_law.specs.Answer.{Spells, Begins, Answer, whole, fault, Answers, EachHasAnswer, OneAnswer}

begins_front : (a b : Tokens) → Begins (a ++ b) → Begins a
begins_front a b h = (stays_front a b no_nest (h.0), (h.1.0, b ++ h.1.1, (h.1.2.0, h.1.2.1 ∙ append_assoc a b (h.1.1))))

-- fewer tokens of those that begin a spelling begin it
begins_less : (l : Tokens) (j k : ℕ) → j ≤ k → k ≤ length l → Begins (take k l) → Begins (take j l)
begins_less l j k h n b =
    let e : take j (take k l) ≡ take j l = take_less l j k h in
    subst Begins e (begins_front (take j (take k l)) (drop j (take k l)) (subst Begins (sym (take-append-drop j (take k l))) b))
  where
    take_less : (l : Tokens) (j k : ℕ) → j ≤ k → take j (take k l) ≡ take j l
    take_less l zero k h = refl
    take_less [] (suc j) zero h = refl
    take_less [] (suc j) (suc k) h = refl
    take_less (x ∷ l) (suc j) zero h = absurd (omega arith)
    take_less (x ∷ l) (suc j) (suc k) h = ap (λ l. x ∷ l) (take_less l j k (omega arith))

-- a module's own tokens begin its spelling
spells_begin : (l : Tokens) (m : Module) (k : ℕ) → k ≤ length l → WithinLimit l → Spells m l → Begins (take k l)
spells_begin l m k h w s =
    let e : take k l ++ drop k l ≡ l = take-append-drop k l in
    begins_front (take k l) (drop k l) (subst Begins (sym e) (w, (m, [], (s.0, s.1 ∙ sym (append-nil l)))))

whole_fault : (l : Tokens) (m : Module) (k : ℕ) → Answers l (whole m) → Answers l (fault k) → ⊥
whole_fault l m k a b = by (eq-or-lt_of_le (b.0))
  where
    by : (k ≡ length l) ⊎ (k < length l) → ⊥
    by (inl e) = b.3 e m (a.1)
    by (inr n) = b.2 n (spells_begin l m (k + 1) (omega arith) (a.0) (a.1))

fault_less : (l : Tokens) (j k : ℕ) → Answers l (fault j) → Answers l (fault k) → j < k → ⊥
fault_less l j k a b less =
    let n : k ≤ length l = b.0 in
    a.2 (omega arith) (begins_less l (j + 1) k (omega arith) n (b.1))

one_fault : (l : Tokens) (j k : ℕ) → Answers l (fault j) → Answers l (fault k) → j ≡ k
one_fault l j k a b = by (cases_order j k)
  where
    by : (j ≡ k) ⊎ ((j < k) ⊎ (k < j)) → j ≡ k
    by (inl e) = e
    by (inr (inl h)) = absurd (fault_less l j k a b h)
    by (inr (inr h)) = absurd (fault_less l k j b a h)

pub one_answers : SameSpellingSameModule → OneAnswer
one_answers same l (whole m) (whole n) a b = ap whole (same m n (a.1.0) (b.1.0) (a.1.1 ∙ sym (b.1.1)))
one_answers same l (whole m) (fault k) a b = absurd (whole_fault l m k a b)
one_answers same l (fault k) (whole m) a b = absurd (whole_fault l m k b a)
one_answers same l (fault j) (fault k) a b = ap fault (one_fault l j k a b)

-- a fault behind the tokens q
stuck_past : (q rest : Tokens) → IsStuckWithin q rest → length q < length (q ++ rest) → Begins (take (length q + 1) (q ++ rest)) → ⊥
stuck_past q [] h n b = absurd (omega (arith, length-append q []))
stuck_past q (x ∷ rest) h n b = h (subst Begins (take-append-add q (x ∷ rest) 1) b)

stuck_end : (q rest : Tokens) → IsStuckWithin q rest → length q ≡ length (q ++ rest) → (m : Module) → Spells m (q ++ rest) → ⊥
stuck_end q [] h n m s = h m (subst (Spells m) (append-nil q) s)
stuck_end q (x ∷ rest) h n m s = absurd (omega (arith, length-append q (x ∷ rest)))

pub fault_answers : (l rest : Tokens) → (f : IsFaultWithin l rest) → Answers l (fault (length (f.0)))
fault_answers l rest f =
    subst (λ l. Answers l (fault (length (f.0)))) (sym (f.1))
    (omega (arith, length-append (f.0) rest), subst Begins (sym (take-append_seam (f.0) rest)) (f.2), stuck_past (f.0) rest (f.3), stuck_end (f.0) rest (f.3))

pub says_answers : (l : Tokens) (o : Outcome) → SaysWithin l o → (a : Answer) × Answers l a
says_answers l (faulty rest) h = (fault (length (h.0)), fault_answers l rest h)
says_answers l (whole_items is []) h = (whole (module_with is), h)
says_answers l (whole_items is (x ∷ rest)) h = (fault (length (h.0)), fault_answers l (x ∷ rest) h)
says_answers l (whole_ex e rest) h = absurd h

pub has_answers : EachHasAnswer
has_answers l = says_answers l (read_within l) (only_within l)
