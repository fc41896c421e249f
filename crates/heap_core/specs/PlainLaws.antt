-- Laws of a plain heap: what its meaning keeps.
use Rattle.std.specs.Prelude.{◌^◌}
use Rattle.std.proofs.Common.{◌≡◌, ℕ, zero, suc, ◌<◌, ◌≤◌, true, false, List, [], ◌∷◌, length, slice_get, refl, ap, arith, Option, Some, None}
use Rattle.std.specs.declared.sync.Arc.{Arc}
use Rattle.heap_core.specs.Meaning.{AllFit}
use Rattle.heap_core.specs.Plain.{values, overlaid, staged_of}

-- none is no value
pub none_some : {A : Type 0} {X : Type 0} (x : A) → None ≡ Some x → X
none_some x e = cc

-- what is bounded in a list of one
pub only_bounded : (k bound : ℕ) → k ≤ bound → (e n : ℕ) → slice_get (k ∷ []) e ≡ Some n → n ≤ bound
only_bounded k bound below zero n at = let is : k ≡ n = (let z : Some k ≡ Some n = at in cc) in omega arith
only_bounded k bound below (suc e) n at = none_some n at

module _ {P Z : Type 0} where
  pub length-values : (cs : List (Arc P Z)) → length (values cs) ≡ length cs
  length-values [] = refl
  length-values (c ∷ cs) = ap suc (length-values cs)

  pub length-overlaid : (cs : List (Arc P Z)) (xs : List (Option (Arc P Z))) → length (overlaid cs xs) ≡ length cs
  length-overlaid [] xs = refl
  length-overlaid (c ∷ cs) [] = ap suc (length-values cs)
  length-overlaid (c ∷ cs) (x ∷ xs) = ap suc (length-overlaid cs xs)

  pub length-staged_of : (xs : List (Option (Arc P Z))) → length (staged_of xs) ≡ length xs
  length-staged_of [] = refl
  length-staged_of (x ∷ xs) = ap suc (length-staged_of xs)

  -- what is not staged is committed
  pub overlaid-unstaged : (cs : List (Arc P Z)) (xs : List (Option (Arc P Z))) (e : ℕ) → slice_get (staged_of xs) e ≡ Some false → slice_get (overlaid cs xs) e ≡ slice_get (values cs) e
  overlaid-unstaged [] xs e h = refl
  overlaid-unstaged (c ∷ cs) [] e h = refl
  overlaid-unstaged (c ∷ cs) (None ∷ xs) zero h = refl
  overlaid-unstaged (c ∷ cs) (Some x ∷ xs) zero h = absurd (let k : Some true ≡ Some false = h in cc)
  overlaid-unstaged (c ∷ cs) (x ∷ xs) (suc e) h = overlaid-unstaged cs xs e h

  -- what a reader promises of the state that it reads
  pub reads_fit : (fits : ℕ → P → ℕ → P → Type 0) (cs : List (Arc P Z)) → 0 < length cs → AllFit fits (values cs) → (0 < length (values cs)) × AllFit fits (values cs)
  reads_fit fits cs some fit = (let l = length-values cs in omega arith, fit)

  -- and that its entities are numbered
  pub reads_numbered : (cs : List (Arc P Z)) → length cs < 2 ^ 32 → length (values cs) < 2 ^ 32
  reads_numbered cs few = let l = length-values cs in omega arith

module _ {P : Type 0} where
  -- a state fits in one way at most, where each payload does
  pub AllFit-prop : (fits : ℕ → P → ℕ → P → Type 0) → ((n : ℕ) (r : P) (e : ℕ) (x : P) → IsProp (fits n r e x)) → (xs : List P) → IsProp (AllFit fits xs)
  AllFit-prop fits once xs = λ f g. λ i root at e x here. once (length xs) root e x (f root at e x here) (g root at e x here) i
