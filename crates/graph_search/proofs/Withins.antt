-- Numbers below a bound, one after another.
use Rattle.std.proofs.Common.{◌≡◌, ℕ, ◌+◌, ◌<◌, ◌≤◌, List, length, get_or, slice_get, take, Some, refl, sym, ap, ◌∙◌, inl, inr, arith, subst}
use Rattle.std.specs.Prelude.{All}
use Rattle.std.proofs.lemmas.Bool.{cases_lt}
use Rattle.graph_search.specs.Cycles.{Has, AreWithin}
use Rattle.graph_search.proofs.Lists.{has_more, has_none, take_whole, get_index}
use Rattle.graph_search.proofs.Searches.{all_from_has, got}
use Rattle.graph_search.proofs.Rising.{one_at}

pub below_none : (numbers : List ℕ) (n : ℕ) (y : ℕ) → Has (take 0 numbers) y → y < n
below_none numbers n y has = absurd (has_none y has)

pub below_next : (numbers : List ℕ) (i n : ℕ) → get_or numbers i 0 < n → ((y : ℕ) → Has (take i numbers) y → y < n) → (y : ℕ) → Has (take (i + 1) numbers) y → y < n
below_next numbers i n here below y has = elim (has_more numbers i y has) [ inl old ↦ below y old | inr same ↦ omega arith ]

pub below_all : (numbers : List ℕ) (i n : ℕ) → length numbers ≤ i → ((y : ℕ) → Has (take i numbers) y → y < n) → All (λ y. y < n) numbers
below_all numbers i n all below = all_from_has (λ y. y < n) numbers (λ y has. below y (subst (λ (l : List ℕ). Has l y) (sym (take_whole numbers i all)) has))

-- the first i lists have numbers below n alone
abbrev pub HalfWithin : List (List ℕ) → ℕ → ℕ → Type 0
HalfWithin edges n i = (k : ℕ) (ys : List ℕ) → k < i → slice_get edges k ≡ Some ys → All (λ y. y < n) ys

pub within_next : (edges : List (List ℕ)) (n i : ℕ) (ys view : List ℕ) → slice_get edges i ≡ Some ys → view ≡ ys → All (λ y. y < n) view → HalfWithin edges n i → HalfWithin edges n (i + 1)
within_next edges n i ys view list same here below k others less at = elim (cases_lt k i) [
  | inl earlier ↦ below k others earlier at
  | inr last ↦ (
      let equal : k ≡ i = omega arith in
      let ours : view ≡ others = same ∙ one_at edges i ys others list (ap (slice_get edges) (sym equal) ∙ at) in
      subst (λ (l : List ℕ). All (λ y. y < n) l) ours here)
]

pub within_all : (edges : List (List ℕ)) (i : ℕ) → length edges ≤ i → HalfWithin edges (length edges) i → AreWithin edges
within_all edges i all below k d few = below k (get_or edges k d) (omega arith) (get_index edges k d (get_or edges k d) few refl)

pub within_here : (edges : List (List ℕ)) (i : ℕ) (ys view : List ℕ) → slice_get edges i ≡ Some ys → view ≡ ys → i < length edges → AreWithin edges → All (λ y. y < length edges) view
within_here edges i ys view list same small within =
    subst (λ (l : List ℕ). All (λ y. y < length edges) l) (sym same) (subst (λ (l : List ℕ). All (λ y. y < length edges) l) (got edges i ys list) (within i ys small))
