-- A union is below one that has its members.
use Rattle.std.proofs.Common.{◌≡◌, ℕ, zero, suc, ◌+◌, ◌<◌, ◌≤◌, List, [], ◌∷◌, length, get_or, take, Contains, refl, sym, ap, arith, subst, inl, inr}
use Rattle.type_values.specs.declared.types.FlowType.{FlowType, out-FlowType}
use Rattle.type_values.specs.declared.types.FlowType.TheOpen.{Union}
use Rattle.alias_table.specs.Aliases.{Key}
use Rattle.subtyping.specs.Closed.{IsBelow}
use Rattle.subtyping.proofs.Whole.{split, first_or, nothing}
use Rattle.subtype_rules.proofs.Grown.{take_push}
use Rattle.subtyping.proofs.Justified.{union_left, union_right}

pub covered_below : (a b : FlowType) (some all : List FlowType) → out-FlowType a ≡ Union some → out-FlowType b ≡ Union all → ((x : FlowType) → Contains some x → Contains all x) → (named : Key → FlowType) → ((x : FlowType) → IsBelow named x x) → IsBelow named a b
covered_below a b some all a_is b_is inside named itself = union_left named a b some a_is (λ x c. union_right named x b all x b_is (inside x c) (itself x))

pub at_place : (all : List FlowType) (k : ℕ) (y x : FlowType) → k < length all → y ≡ get_or all k y → y ≡ x → Contains all x
at_place all k y x h e same = subst (Contains all) same (k, h, sym e)

-- the first i are in another list
abbrev pub FirstIn : List FlowType → List FlowType → ℕ → Type 0
FirstIn some all i = (x : FlowType) → Contains (take i some) x → Contains all x

pub first_none : (some all : List FlowType) → FirstIn some all 0
first_none some all x c = nothing x c

pub first_next : (some all : List FlowType) (i : ℕ) (y : FlowType) → i < length some → y ≡ get_or some i y → Contains all y → FirstIn some all i → FirstIn some all (i + 1)
first_next some all i y h e here first x c = elim (split (take i some) (y ∷ []) x (subst (λ (l : List FlowType). Contains l x) (take_push some i y h e) c)) [
  | inl d ↦ first x d
  | inr d ↦ elim (first_or y [] x d) [ inl is ↦ subst (Contains all) is here | inr none ↦ nothing x none ]
]

pub first_all : (some all : List FlowType) (i : ℕ) → length some ≤ i → FirstIn some all i → (x : FlowType) → Contains some x → Contains all x
first_all some all i h first x c = first x (subst (λ (l : List FlowType). Contains l x) (sym (whole some i h)) c)
  where
    whole : (xs : List FlowType) (n : ℕ) → length xs ≤ n → take n xs ≡ xs
    whole [] zero h = refl
    whole [] (suc n) h = refl
    whole (x ∷ xs) zero h = absurd (omega (arith, h))
    whole (x ∷ xs) (suc n) h = ap (λ l. x ∷ l) (whole xs n (omega (arith, h)))
