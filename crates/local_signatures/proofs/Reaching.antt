-- The names that the rounds come to are those that are reached.
use Rattle.std.proofs.Common.{◌≡◌, ℕ, zero, suc, ◌<◌, ◌≤◌, Bool, true, false, List, [], ◌∷◌, ◌++◌, length, flat_map, Option, Some, None, refl, sym, ap, ◌∙◌, ◌⊎◌, inl, inr, subst, cond, bytes_eq, arith}
use Rattle.check_values.specs.Rows.{Bytes, Rows, row_at, is_among}
use Rattle.type_values.specs.declared.types.FlowType.{FlowType}
use Rattle.js_grammar.specs.Items.{Module}
use Rattle.local_signatures.specs.LocalSignature.{aliases_of, led_to_by_exports, led_to_by_type, led_to_by, next_names, names_after, reached_names, Reached, by_export, by_alias}
use Rattle.local_signatures.proofs.Words.{bytes_same, among_either, among_left, among_right, among_distinct, among_all, among_flat, among_some}

-- all words of the first are among those of the second
abbrev Within : List Bytes → List Bytes → Type 0
Within xs ys = (w : Bytes) → is_among xs w ≡ true → is_among ys w ≡ true

module _ {X : Type 0} where
  -- how many rows have names that are not among the words
  abbrev unmet : List Bytes → Rows X → ℕ
  unmet words [] = 0
  unmet words (row ∷ rows) = cond (is_among words row.0) (unmet words rows) (suc (unmet words rows))

  unmet_long : (words : List Bytes) (rows : Rows X) → unmet words rows ≤ length rows
  unmet_long words [] = omega arith
  unmet_long words (row ∷ rows) = go (is_among words row.0) (unmet_long words rows)
    where
      go : (b : Bool) → unmet words rows ≤ length rows → cond b (unmet words rows) (suc (unmet words rows)) ≤ suc (length rows)
      go true le = omega arith
      go false le = omega arith

  unmet_falls : (xs ys : List Bytes) → Within xs ys → (rows : Rows X) → unmet ys rows ≤ unmet xs rows
  unmet_falls xs ys grows [] = omega arith
  unmet_falls xs ys grows (row ∷ rows) = go (is_among xs row.0) (is_among ys row.0) refl refl (unmet_falls xs ys grows rows)
    where
      go : (a b : Bool) → is_among xs row.0 ≡ a → is_among ys row.0 ≡ b → unmet ys rows ≤ unmet xs rows → cond b (unmet ys rows) (suc (unmet ys rows)) ≤ cond a (unmet xs rows) (suc (unmet xs rows))
      go true true e f le = le
      go true false e f le = absurd (let g = grows row.0 e in cc)
      go false true e f le = omega arith
      go false false e f le = omega arith

  -- either fewer are unmet, or each row of which the name is met was met before
  falls_or_same : (xs ys : List Bytes) → Within xs ys → (rows : Rows X) → (unmet ys rows < unmet xs rows) ⊎ ((w : Bytes) (x : X) → row_at rows w ≡ Some x → is_among ys w ≡ true → is_among xs w ≡ true)
  falls_or_same xs ys grows [] = inr (λ w x is now. absurd (let g : None ≡ Some x = is in cc))
  falls_or_same xs ys grows (row ∷ rows) = go (is_among xs row.0) (is_among ys row.0) refl refl (unmet_falls xs ys grows rows) (falls_or_same xs ys grows rows)
    where
      there : (is_among ys row.0 ≡ true → is_among xs row.0 ≡ true) → ((w : Bytes) (x : X) → row_at rows w ≡ Some x → is_among ys w ≡ true → is_among xs w ≡ true) → (w : Bytes) (x : X) (b : Bool) → bytes_eq row.0 w ≡ b → cond b (Some row.1) (row_at rows w) ≡ Some x → is_among ys w ≡ true → is_among xs w ≡ true
      there here same w x true e is now = subst (λ (z : Bytes). is_among xs z ≡ true) (bytes_same row.0 w e) (here (subst (λ (z : Bytes). is_among ys z ≡ true) (sym (bytes_same row.0 w e)) now))
      there here same w x false e is now = same w x is now

      go : (a b : Bool) → is_among xs row.0 ≡ a → is_among ys row.0 ≡ b → unmet ys rows ≤ unmet xs rows → (unmet ys rows < unmet xs rows) ⊎ ((w : Bytes) (x : X) → row_at rows w ≡ Some x → is_among ys w ≡ true → is_among xs w ≡ true) →
          (cond b (unmet ys rows) (suc (unmet ys rows)) < cond a (unmet xs rows) (suc (unmet xs rows))) ⊎ ((w : Bytes) (x : X) → row_at (row ∷ rows) w ≡ Some x → is_among ys w ≡ true → is_among xs w ≡ true)
      go true false e f le rest = absurd (let g = grows row.0 e in cc)
      go false true e f le rest = inl (omega arith)
      go true true e f le (inl less) = inl less
      go true true e f le (inr same) = inr (λ w x is now. there (λ _. e) same w x (bytes_eq row.0 w) refl is now)
      go false false e f le (inl less) = inl (omega arith)
      go false false e f le (inr same) = inr (λ w x is now. there (λ (g : is_among ys row.0 ≡ true). absurd (let h = sym f ∙ g in cc)) same w x (bytes_eq row.0 w) refl is now)

module _ (aliases : Rows FlowType) where
  abbrev led : Bytes → List Bytes
  led word = led_to_by (row_at aliases word)

  -- with each alias the words have the names that it leads to
  abbrev Closed : List Bytes → Type 0
  Closed words = (w next : Bytes) (t : FlowType) → is_among words w ≡ true → row_at aliases w ≡ Some t → is_among (led_to_by_type t) next ≡ true → is_among words next ≡ true

  kept : (words : List Bytes) → Within words (next_names aliases words)
  kept words w is = among_all (words ++ flat_map led words) w (among_left words (flat_map led words) w is)

  led_on : (words : List Bytes) (w next : Bytes) (t : FlowType) → is_among words w ≡ true → row_at aliases w ≡ Some t → is_among (led_to_by_type t) next ≡ true → is_among (next_names aliases words) next ≡ true
  led_on words w next t there row is =
      among_all (words ++ flat_map led words) next (among_right words (flat_map led words) next
      (among_some led words w next there (ap (λ (o : Option FlowType). is_among (led_to_by o) next) row ∙ is)))

  led_from : (o : Option FlowType) (next : Bytes) → is_among (led_to_by o) next ≡ true → (t : FlowType) × (o ≡ Some t) × (is_among (led_to_by_type t) next ≡ true)
  led_from None next is = absurd (cc)
  led_from (Some t) next is = (t, refl, is)

  -- a new word stands in the type of an alias among the words
  new_word : (words : List Bytes) (next : Bytes) → is_among (next_names aliases words) next ≡ true → (is_among words next ≡ true) ⊎ ((w : Bytes) × (t : FlowType) × (is_among words w ≡ true) × (row_at aliases w ≡ Some t) × (is_among (led_to_by_type t) next ≡ true))
  new_word words next is = elim (among_either words (flat_map led words) next (among_distinct (words ++ flat_map led words) next is)) [
    | inl e ↦ inl e
    | inr e ↦ (let r = among_flat led words next e in let s = led_from (row_at aliases r.0) next r.2 in inr (r.0, s.0, r.1, s.1, s.2))
  ]

  closed_next : (words : List Bytes) → Closed words → Closed (next_names aliases words)
  closed_next words closed w next t there row is = elim (new_word words w there) [
    | inl e ↦ led_on words w next t e row is
    | inr (v, u, e, r, l) ↦ led_on words w next t (closed v w u e r l) row is
  ]

  closed_after : (rounds : ℕ) (words : List Bytes) → Closed words → Closed (names_after aliases rounds words)
  closed_after zero words closed = closed
  closed_after (suc rounds) words closed = closed_after rounds (next_names aliases words) (closed_next words closed)

  closes : (rounds : ℕ) (words : List Bytes) → unmet words aliases < rounds → Closed (names_after aliases rounds words)
  closes zero words few = absurd (omega arith)
  closes (suc rounds) words few = elim (falls_or_same words (next_names aliases words) (kept words) aliases) [
    | inl less ↦ closes rounds (next_names aliases words) (omega arith)
    | inr same ↦ closed_after rounds (next_names aliases words) (λ w next t there row is. led_on words w next t (same w t row there) row is)
  ]

  kept_after : (rounds : ℕ) (words : List Bytes) → Within words (names_after aliases rounds words)
  kept_after zero words w is = is
  kept_after (suc rounds) words w is = kept_after rounds (next_names aliases words) w (kept words w is)

module _ (m : Module) where
  pub complete : (w : Bytes) → Reached m w → is_among (reached_names m) w ≡ true
  complete w (by_export _ is) = kept_after (aliases_of m) (suc (length (aliases_of m))) (led_to_by_exports m) w is
  complete w (by_alias word _ t before row is) =
      closes (aliases_of m) (suc (length (aliases_of m))) (led_to_by_exports m) (let le = unmet_long (led_to_by_exports m) (aliases_of m) in omega arith) word w t (complete word before) row is

  all_reached : (rounds : ℕ) (words : List Bytes) → ((w : Bytes) → is_among words w ≡ true → Reached m w) → (w : Bytes) → is_among (names_after (aliases_of m) rounds words) w ≡ true → Reached m w
  all_reached zero words each w is = each w is
  all_reached (suc rounds) words each w is = all_reached rounds (next_names (aliases_of m) words) (λ v there. elim (new_word (aliases_of m) words v there) [
    | inl e ↦ each v e
    | inr (u, t, e, row, led) ↦ by_alias u v t (each u e) row led
  ]) w is

  pub sound : (w : Bytes) → is_among (reached_names m) w ≡ true → Reached m w
  sound w is = all_reached (suc (length (aliases_of m))) (led_to_by_exports m) (λ v there. by_export v there) w is
