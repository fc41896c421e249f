-- The places of numbers, in slots of theirs.
use Rattle.std.proofs.Common.{◌≡◌, ◌≢◌, ℕ, zero, suc, ◌+◌, ◌<◌, ◌≤◌, List, [], ◌∷◌, ◌++◌, All, length, take, set, replicate, get_or, slice_get, Option, Some, None, refl, sym, ap, ◌∙◌, subst, inl, inr, arith}
use Rattle.std.specs.Prelude.{option_to_list}
use Rattle.std.proofs.lemmas.Bool.{cases_lt}
use mathlib.Core.Logic.{dite}
use native.Mathlib.Decide.{ℕ_discrete}
use Rattle.heap_core.proofs.Lists.{put_here, put_else}
use Rattle.named_rows.proofs.Lists.{flat_more}
use Rattle.graph_search.specs.Cycles.{Has}
use Rattle.graph_search.specs.Reach.{IsRising}
use Rattle.graph_search.proofs.Lists.{has_none}
use Rattle.check_phases.proofs.Lists.{one_value, place_at}
use Rattle.recheck_merging.specs.Inner.{ArePlacesTo, placed}
use Rattle.recheck_merging.proofs.Mapped.{all_has}

none_at : {X : Type 0} (n x : ℕ) (y : X) → slice_get (replicate n None) x ≡ Some (Some y) → ⊥
none_at zero x y at = let z : None ≡ Some (Some y) = at in cc
none_at (suc n) zero y at = let z : Some None ≡ Some (Some y) = at in cc
none_at (suc n) (suc x) y at = none_at n x y at

pub no_places : (numbers : List ℕ) (count : ℕ) (places : List (Option ℕ)) → places ≡ replicate count None → ArePlacesTo numbers 0 places
no_places numbers count places is = subst (λ (l : List (Option ℕ)). ArePlacesTo numbers 0 l) (sym is) (record {
  sound = λ x i at. absurd (none_at count x i at);
  complete = λ x i low at. absurd (omega arith);
})

module _ (numbers : List ℕ) (i : ℕ) (places : List (Option ℕ)) (rising : IsRising numbers) (within : All (λ x. x < length places) numbers) (low : i < length numbers) (are : ArePlacesTo numbers i places) where
  abbrev mine : ℕ
  mine = get_or numbers i 0

  abbrev now : List (Option ℕ)
  now = set places mine (Some i)

  at_mine : slice_get numbers i ≡ Some mine
  at_mine = place_at numbers i 0 low

  room : mine < length places
  room = all_has (λ (x : ℕ). x < length places) numbers within mine (i, at_mine)

  put_sound : (x j : ℕ) → slice_get now x ≡ Some (Some j) → slice_get numbers j ≡ Some x
  put_sound x j at = dite (ℕ_discrete x mine)
      (λ (same : x ≡ mine).
      let is : Some (Some i) ≡ Some (Some j) = sym (put_here places mine (Some i) room) ∙ (ap (slice_get now) (sym same) ∙ at) in
      let eq : i ≡ j = one_value i j (one_value (Some i) (Some j) is) in
      ap (slice_get numbers) (sym eq) ∙ (at_mine ∙ ap Some (sym same)))
      (λ (ne : x ≢ mine). are.sound x j (sym (put_else places mine x (Some i) ne) ∙ at))

  put_complete : (x j : ℕ) → j < i + 1 → slice_get numbers j ≡ Some x → slice_get now x ≡ Some (Some j)
  put_complete x j below at = elim (cases_lt j i) [
    | inl before ↦
        let less = rising j i x mine before at at_mine in
        let ne : x ≢ mine = (λ (same : x ≡ mine). omega arith) in
        put_else places mine x (Some i) ne ∙ are.complete x j before at
    | inr behind ↦
        let same : j ≡ i = omega arith in
        let is : x ≡ mine = one_value x mine (sym at ∙ (ap (slice_get numbers) same ∙ at_mine)) in
        ap (slice_get now) is ∙ (put_here places mine (Some i) room ∙ ap (λ (k : ℕ). Some (Some k)) (sym same))
  ]

  placed_now : ArePlacesTo numbers (i + 1) now
  placed_now = record { sound = put_sound; complete = put_complete }

pub place_put : (numbers : List ℕ) (i : ℕ) (places : List (Option ℕ)) → IsRising numbers → All (λ x. x < length places) numbers → i < length numbers → ArePlacesTo numbers i places
    → ArePlacesTo numbers (i + 1) (set places (get_or numbers i 0) (Some i))
place_put numbers i places rising within low are = placed_now numbers i places rising within low are

-- the slots of the numbers are there
pub low_places : (numbers : List ℕ) (count : ℕ) (places : List (Option ℕ)) → All (λ x. x < count) numbers → length places ≡ count → All (λ x. x < length places) numbers
low_places numbers count places low many = subst (λ (n : ℕ). All (λ x. x < n) numbers) (sym many) low

pub all_places : (numbers : List ℕ) (i : ℕ) (places : List (Option ℕ)) → length numbers ≤ i → ArePlacesTo numbers i places → ArePlacesTo numbers (length numbers) places
all_places numbers i places all are = record { sound = are.sound; complete = λ x j low at. are.complete x j (omega arith) at }

-- ---- the places of some numbers

slot : (places : List (Option ℕ)) (y : ℕ) (o : Option ℕ) → get_or places y None ≡ o → (j : ℕ) → o ≡ Some j → slice_get places y ≡ Some (Some j)
slot [] y o is j some = absurd (let z : None ≡ Some j = is ∙ some in cc)
slot (p ∷ places) zero o is j some = ap Some (is ∙ some)
slot (p ∷ places) (suc y) o is j some = slot places y o is j some

slot_back : (places : List (Option ℕ)) (y j : ℕ) → slice_get places y ≡ Some (Some j) → get_or places y None ≡ Some j
slot_back [] y j at = absurd (let z : None ≡ Some (Some j) = at in cc)
slot_back (p ∷ places) zero j at = one_value p (Some j) at
slot_back (p ∷ places) (suc y) j at = slot_back places y j at

pub has_placed : (places : List (Option ℕ)) (ys : List ℕ) (j : ℕ) → Has (placed places ys) j → (y : ℕ) × Has ys y × (slice_get places y ≡ Some (Some j))
has_placed places [] j has = absurd (has_none j has)
has_placed places (y ∷ ys) j has = go (get_or places y None) refl (λ h. has_placed places ys j h) has
  where
    later : ((z : ℕ) × Has ys z × (slice_get places z ≡ Some (Some j))) → (z : ℕ) × Has (y ∷ ys) z × (slice_get places z ≡ Some (Some j))
    later it = (it.0, (suc it.1.0, it.1.1), it.2)

    go : (o : Option ℕ) → get_or places y None ≡ o → (Has (placed places ys) j → (z : ℕ) × Has ys z × (slice_get places z ≡ Some (Some j))) → Has (option_to_list o ++ placed places ys) j
        → (z : ℕ) × Has (y ∷ ys) z × (slice_get places z ≡ Some (Some j))
    go None is rest h = later (rest h)
    go (Some k) is rest (zero, at) = (y, (0, refl), slot places y (Some k) is j at)
    go (Some k) is rest (suc i, at) = later (rest (i, at))

pub placed_has : (places : List (Option ℕ)) (ys : List ℕ) (y j : ℕ) → Has ys y → slice_get places y ≡ Some (Some j) → Has (placed places ys) j
placed_has places [] y j has at = absurd (has_none y has)
placed_has places (z ∷ ys) y j (zero, is) at =
    let here : get_or places z None ≡ Some j = ap (λ (k : ℕ). get_or places k None) (one_value z y is) ∙ slot_back places y j at in
    subst (λ (o : Option ℕ). Has (option_to_list o ++ placed places ys) j) (sym here) (0, refl)
placed_has places (z ∷ ys) y j (suc i, is) at = go (get_or places z None) (placed_has places ys y j (i, is) at)
  where
    go : (o : Option ℕ) → Has (placed places ys) j → Has (option_to_list o ++ placed places ys) j
    go None h = h
    go (Some k) h = (suc h.0, h.1)

-- as the loop has it
pub placed_more : (places : List (Option ℕ)) (ys : List ℕ) (i : ℕ) (old new : List ℕ) → i < length ys → old ≡ placed places (take i ys) → new ≡ old ++ option_to_list (get_or places (get_or ys i 0) None)
    → new ≡ placed places (take (i + 1) ys)
placed_more places ys i old new low so_far adds =
    let f : ℕ → List ℕ = λ y. option_to_list (get_or places y None) in
    adds ∙ (ap (λ (l : List ℕ). l ++ f (get_or ys i 0)) so_far ∙ sym (flat_more f ys i 0 low))
