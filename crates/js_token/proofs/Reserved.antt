-- A word is reserved where it is among the reserved words of its own length.
use Rattle.std.proofs.Common.{◌≡◌, ℕ, ◌≤◌, true, false, ◌||◌, eqb, ltb, ◌&&◌, List, [], ◌∷◌, length, refl, sym, ap, ◌∙◌, subst, inl, inr, arith, IsTrue, ◌↔◌}
use Rattle.std.specs.Prelude.{Contains, filter}
use Rattle.std.specs.List.{list_any, list_all}
use Rattle.std.proofs.lemmas.List.{get_or_default}
use Rattle.std.specs.Str.{bytes_eq}
use Rattle.std.proofs.lemmas.Bool.{false_from_ne_true, eqb-false, cases_Bool, ltb-true, ne_eqb, and_parts, or_from}
use Rattle.std.proofs.lemmas.Slice.Eq.{bytes_eq-Decides}
use Rattle.std.proofs.lemmas.List.Folds.{Any-from_list_any, list_any_at}
use Rattle.js_token.specs.Words.{reserved_words, is_reserved, reserved_of}

-- a text of another length is another text
bytes_eq-length : (xs ys : List ℕ) → eqb (length ys) (length xs) ≡ false → bytes_eq xs ys ≡ false
bytes_eq-length xs ys e =
    false_from_ne_true _ (λ t. eqb-false _ _ e (ap length (sym ((bytes_eq-Decides xs ys).0 t))))

same_length : (word : List ℕ) (ws : List (List ℕ)) →
    list_any (bytes_eq word) (filter (λ w. eqb (length w) (length word)) ws) ≡ list_any (bytes_eq word) ws
same_length word [] = refl
same_length word (w ∷ ws) =
    elim (cases_Bool (eqb (length w) (length word))) [
      | inl e ↦ rw e (ap (λ b. bytes_eq word w || b) (same_length word ws))
      | inr e ↦ rw (e, bytes_eq-length word w e) (same_length word ws)
    ]

pub of_length : (word : List ℕ) (n : ℕ) → length word ≡ n → list_any (bytes_eq word) (reserved_of n) ≡ is_reserved word
of_length word n e = subst (λ (k : ℕ). list_any (bytes_eq word) (reserved_of k) ≡ is_reserved word) e (same_length word reserved_words)

listed_in : (word : List ℕ) (ws : List (List ℕ)) → (list_any (bytes_eq word) ws ≡ true) ↔ Contains ws word
listed_in word ws = (
  λ t. let any = Any-from_list_any (bytes_eq word) ws t in
      (any.0, any.2, get_or_default ws any.0 word any.1 any.2 ∙ (any.3 ∙ sym ((bytes_eq-Decides word any.1).0 any.4))),
  λ found. list_any_at (bytes_eq word) ws found.0 word found.1 ((bytes_eq-Decides word _).1 (sym found.2)),
)

pub listed : (word : List ℕ) → IsTrue (is_reserved word) ↔ Contains reserved_words word
listed word = listed_in word reserved_words

-- a length of which there is none
shorter : (word : List ℕ) (ws : List (List ℕ)) → list_all (λ w. ltb (length w) 11 && ltb 1 (length w)) ws ≡ true →
    (2 ≤ length word → length word ≤ 10 → ⊥) → list_any (bytes_eq word) ws ≡ false
shorter word [] a h = refl
shorter word (w ∷ ws) a h =
    let parts = and_parts (ltb (length w) 11 && ltb 1 (length w)) _ a in
    let bounds = and_parts (ltb (length w) 11) (ltb 1 (length w)) parts.0 in
    let low = ltb-true _ _ bounds.1 in
    let high = ltb-true _ _ bounds.0 in
    let other : bytes_eq word w ≡ false =
    bytes_eq-length word w (ne_eqb _ _ (λ e. h (omega (arith, e)) (omega (arith, e)))) in
    or_from _ _ other (shorter word ws parts.1 h)

pub none_of_length : (word : List ℕ) → (2 ≤ length word → length word ≤ 10 → ⊥) → is_reserved word ≡ false
none_of_length word h = shorter word reserved_words refl h
