-- What there is for each place of a list there is for all places at once.
use Rattle.std.proofs.Common.{◌≡◌, ℕ, zero, suc, List, [], ◌∷◌, slice_get, Some, None, refl, subst}
use mathlib.Core.Logic.{∥∥₁_map₂}

-- what holds at each place
abbrev pub AtEach : {A : Type 0} → (ℕ → A → Type 0) → List A → Type 0
AtEach {A} Holds xs = (e : ℕ) (x : A) → slice_get xs e ≡ Some x → Holds e x

pub all_at_once : {A : Type 0} (Holds : ℕ → A → Type 0) (xs : List A) → AtEach (λ e x. ∥ Holds e x ∥₁) xs → ∥ AtEach Holds xs ∥₁
all_at_once {A} Holds [] each = ∣ (λ e x at. absurd (let z : None ≡ Some x = at in cc)) ∣₁
all_at_once {A} Holds (y ∷ xs) each = ∥∥₁_map₂ (each zero y refl) (all_at_once (λ e. Holds (suc e)) xs (λ e x at. each (suc e) x at)) both
  where
    both : Holds zero y → AtEach (λ e. Holds (suc e)) xs → AtEach Holds (y ∷ xs)
    both first rest zero x at = let same : y ≡ x = (let z : Some y ≡ Some x = at in cc) in subst (Holds zero) same first
    both first rest (suc e) x at = rest e x at
