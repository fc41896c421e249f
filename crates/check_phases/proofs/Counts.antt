-- Each module stands in one component, and each component in one wave, so the waves have as many members as there are modules.
use Rattle.std.proofs.Common.{◌≡◌, ◌⊎◌, ℕ, zero, suc, Bool, true, false, List, [], ◌∷◌, ◌++◌, get_or, Some, None, refl, sym, ap, inl, inr}
use Rattle.std.specs.Prelude.{eqb, ◌||◌}
use Rattle.std.specs.List.{AllByRecursion, IsDistinct, list_any}
use Rattle.std.proofs.lemmas.Bool.{eqb-true}
use Rattle.std.proofs.lemmas.Map.Keys.{IsDistinct-cons}
use Rattle.graph_search.specs.Cycles.{Has}
use Rattle.graph_search.specs.Components.{StandsIn}

-- no number stands twice
abbrev pub Once : List ℕ → Type 0
Once [] = Unit {0}
Once (x ∷ xs) = (Has xs x → ⊥) × Once xs

has_later : (x : ℕ) (xs : List ℕ) (y : ℕ) → Has xs y → Has (x ∷ xs) y
has_later x xs y h = (suc h.0, h.1)

pub has_append : (xs ys : List ℕ) (x : ℕ) → Has (xs ++ ys) x → Has xs x ⊎ Has ys x
has_append [] ys x h = inr h
has_append (y ∷ xs) ys x (zero, at) = inl (0, at)
has_append (y ∷ xs) ys x (suc i, at) = elim (has_append xs ys x (i, at)) [ inl h ↦ inl (has_later y xs x h) | inr h ↦ inr h ]

-- ---- as many as below a number

pub any_has : (xs : List ℕ) (x : ℕ) → list_any (eqb x) xs ≡ true → Has xs x
any_has [] x is = absurd (let z : false ≡ true = is in cc)
any_has (y ∷ xs) x is = go (λ h. any_has xs x h) (eqb x y) refl is
  where
    go : (list_any (eqb x) xs ≡ true → Has xs x) → (b : Bool) → eqb x y ≡ b → (b || list_any (eqb x) xs) ≡ true → Has (y ∷ xs) x
    go later true e h = (0, ap Some (sym (eqb-true x y e)))
    go later false e h = has_later y xs x (later h)

first_has : (y : ℕ) (xs : List ℕ) (x : ℕ) → y ≡ x → Has (y ∷ xs) x
first_has y xs x is = (0, ap Some is)

all_apart : (xs : List ℕ) (x : ℕ) → (Has xs x → ⊥) → AllByRecursion (λ y. eqb x y ≡ false) xs
all_apart [] x never = tt
all_apart (y ∷ xs) x never = (go (eqb x y) refl, all_apart xs x (λ h. never (has_later y xs x h)))
  where
    go : (b : Bool) → eqb x y ≡ b → eqb x y ≡ false
    go true e = absurd (never (first_has y xs x (sym (eqb-true x y e))))
    go false e = e

pub once_distinct : (xs : List ℕ) → Once xs → IsDistinct eqb xs
unfolding IsDistinct
once_distinct [] once = tt
once_distinct (x ∷ xs) once = IsDistinct-cons eqb x xs (all_apart xs x once.0) (once_distinct xs once.1)

-- ---- components and waves

stands : (cs : List (List ℕ)) (k x : ℕ) → Has (get_or cs k []) x → StandsIn cs k x
stands [] k x h = absurd (let z : None ≡ Some x = h.1 in cc)
stands (m ∷ cs) zero x h = (m, refl, h)
stands (m ∷ cs) (suc k) x h = stands cs k x h
