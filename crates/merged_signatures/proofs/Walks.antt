-- A walk that hasn't ended after as many steps as there are places to go on from comes back to a place.
use Rattle.std.proofs.Common.{◌≡◌, ℕ, zero, suc, ◌≤◌, ◌<◌, Bool, true, false, List, [], ◌∷◌, Option, Some, None, refl, sym, ap, ◌∙◌, length, ◌⊎◌, inl, inr, arith, subst, ◌||◌}
use Rattle.std.specs.Cmp.{IsEquivalence}
use Rattle.std.specs.List.{list_any, IsDistinct, AllByRecursion}
use Rattle.std.proofs.lemmas.Map.Made.{length-le_from_is_member}
use Rattle.merged_signatures.specs.Repeats.{Leads, here, along, Repeats}

-- it goes on for so many steps
abbrev pub goes_on_for : {X : Type 0} → (X → Option X) → ℕ → X → Bool
goes_on_for next zero x = true
goes_on_for next (suc n) x = elim (next x) [ None ↦ false | Some y ↦ goes_on_for next n y ]

-- the places that it goes on from
abbrev pub trail : {X : Type 0} → (X → Option X) → ℕ → X → List X
trail next zero x = []
trail next (suc n) x = elim (next x) [ None ↦ [] | Some y ↦ x ∷ trail next n y ]

module _ {X : Type 0} (next : X → Option X) where
  step-trail : (n : ℕ) (x y : X) → next x ≡ Some y → trail next (suc n) x ≡ x ∷ trail next n y
  step-trail n x y is = rw (is, trail) refl

  step-goes : (n : ℕ) (x y : X) → next x ≡ Some y → goes_on_for next (suc n) x ≡ goes_on_for next n y
  step-goes n x y is = rw (is, goes_on_for) refl

  -- what it comes back to goes on for ever, and so does all that leads there
  round : (x y : X) → next x ≡ Some y → Leads next y x → (n : ℕ) (z : X) → Leads next z x → goes_on_for next n z ≡ true
  round x y g back zero z leads = refl
  round x y g back (suc n) z (here) = step-goes n x y g ∙ round x y g back n y back
  round x y g back (suc n) z (along {y = w} h leads) = step-goes n z w h ∙ round x y g back n w leads

  pub repeats_goes_on : (x : X) → Repeats next x → (n : ℕ) → goes_on_for next n x ≡ true
  repeats_goes_on x (y, z, there, on, back) n = round y z on back n x there

  going : (n : ℕ) (x : X) → goes_on_for next (suc n) x ≡ true → (y : X) × (next x ≡ Some y) × (goes_on_for next n y ≡ true)
  going n x on = go (next x) refl on
    where
      go : (o : Option X) → next x ≡ o → (elim o as (λ _. Bool) [ None ↦ false | Some y ↦ goes_on_for next n y ]) ≡ true → (y : X) × (next x ≡ Some y) × (goes_on_for next n y ≡ true)
      go None is on = absurd (cc)
      go (Some y) is on = (y, is, on)

  length-trail : (n : ℕ) (x : X) → goes_on_for next n x ≡ true → length (trail next n x) ≡ n
  length-trail zero x on = refl
  length-trail (suc n) x on = let g = going n x on in ap length (step-trail n x g.0 g.1) ∙ ap suc (length-trail n g.0 g.2)

  or_rest : (a b : Bool) → a || b ≡ true → a ≡ false → b ≡ true
  or_rest true b is e = absurd (cc)
  or_rest false b is e = is

  -- the trail passes through what leads there
  member_leads : (eq : X → X → Bool) → ((x y : X) → eq x y ≡ true → x ≡ y) → (n : ℕ) (x y : X) → list_any (eq x) (trail next n y) ≡ true → Leads next y x
  member_leads eq exact zero x y is = absurd (cc)
  member_leads eq exact (suc n) x y is = go (λ z. member_leads eq exact n x z) (next y) refl is
    where
      go : ((z : X) → list_any (eq x) (trail next n z) ≡ true → Leads next z x) → (o : Option X) → next y ≡ o → list_any (eq x) (elim o as (λ _. List X) [ None ↦ [] | Some z ↦ y ∷ trail next n z ]) ≡ true → Leads next y x
      go rest None is_next is = absurd (cc)
      go rest (Some z) is_next is = either (eq x y) refl
        where
          either : (b : Bool) → eq x y ≡ b → Leads next y x
          either true e = let s : x ≡ y = exact x y e in let P : X → Type 0 = λ (w : X). Leads next y w in subst P (sym s) here
          either false e = along is_next (rest z (or_rest (eq x y) (list_any (eq x) (trail next n z)) is e))

  apart : (eq : X → X → Bool) (x : X) (xs : List X) → list_any (eq x) xs ≡ false → AllByRecursion (λ y. eq x y ≡ false) xs
  apart eq x [] is = tt
  apart eq x (y ∷ ys) is = (first (eq x y) _ is, apart eq x ys (second (eq x y) _ is))
    where
      first : (a b : Bool) → a || b ≡ false → a ≡ false
      first true b is = absurd (cc)
      first false b is = refl

      second : (a b : Bool) → a || b ≡ false → b ≡ false
      second true b is = absurd (cc)
      second false b is = is

  -- after n steps, either all places passed differ, or it comes back to one
  distinct_or_repeats : (eq : X → X → Bool) → ((x y : X) → eq x y ≡ true → x ≡ y) → (n : ℕ) (x : X) → goes_on_for next n x ≡ true → IsDistinct eq (trail next n x) ⊎ Repeats next x
  unfolding IsDistinct
  distinct_or_repeats eq exact zero x on = inl tt
  distinct_or_repeats eq exact (suc n) x on = let g = going n x on in from g.0 g.1 (distinct_or_repeats eq exact n g.0 g.2)
    where
      from : (y : X) → next x ≡ Some y → IsDistinct eq (trail next n y) ⊎ Repeats next y → IsDistinct eq (trail next (suc n) x) ⊎ Repeats next x
      from y is (inr (a, b, there, on, back)) = inr (a, b, along is there, on, back)
      from y is (inl distinct) = either (list_any (eq x) (trail next n y)) refl
        where
          either : (b : Bool) → list_any (eq x) (trail next n y) ≡ b → IsDistinct eq (trail next (suc n) x) ⊎ Repeats next x
          either true e = inr (x, y, here, is, member_leads eq exact n x y e)
          either false e = inl (let P : List X → Type 0 = λ (t : List X). IsDistinct eq t in subst P (sym (step-trail n x y is)) (apart eq x (trail next n y) e, distinct))

  members : (eq : X → X → Bool) → (sources : List X) → ((x y : X) → next x ≡ Some y → list_any (eq x) sources ≡ true) → ((x y : X) → eq x y ≡ true → x ≡ y) → (n : ℕ) (x q : X) → list_any (eq q) (trail next n x) ≡ true → list_any (eq q) sources ≡ true
  members eq sources all exact zero x q is = absurd (cc)
  members eq sources all exact (suc n) x q is = go (λ z. members eq sources all exact n z q) (next x) refl is
    where
      go : ((z : X) → list_any (eq q) (trail next n z) ≡ true → list_any (eq q) sources ≡ true) → (o : Option X) → next x ≡ o → list_any (eq q) (elim o as (λ _. List X) [ None ↦ [] | Some z ↦ x ∷ trail next n z ]) ≡ true → list_any (eq q) sources ≡ true
      go rest None is_next is = absurd (cc)
      go rest (Some z) is_next is = either (eq q x) refl
        where
          either : (b : Bool) → eq q x ≡ b → list_any (eq q) sources ≡ true
          either true e = let P : X → Type 0 = λ (w : X). list_any (eq w) sources ≡ true in subst P (sym (exact q x e)) (all x z is_next)
          either false e = rest z (or_rest (eq q x) (list_any (eq q) (trail next n z)) is e)

  -- what goes on for more steps than there are places to go on from comes back to one
  pub long_repeats : (eq : X → X → Bool) (laws : IsEquivalence eq) → ((x y : X) → eq x y ≡ true → x ≡ y) → (sources : List X) → ((x y : X) → next x ≡ Some y → list_any (eq x) sources ≡ true) → (n : ℕ) → length sources < n → (x : X) → goes_on_for next n x ≡ true → Repeats next x
  long_repeats eq laws exact sources all n more x on = from (distinct_or_repeats eq exact n x on)
    where
      from : IsDistinct eq (trail next n x) ⊎ Repeats next x → Repeats next x
      from (inr again) = again
      from (inl distinct) = absurd (let few : length (trail next n x) ≤ length sources = length-le_from_is_member laws (trail next n x) sources distinct (members eq sources all exact n x) in let many = length-trail n x on in omega arith)
