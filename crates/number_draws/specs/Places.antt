-- Numbered answers and their places.
use Rattle.std.specs.Prelude.{◌≡◌, ℕ, ◌<◌, List, [], ◌∷◌, length, slice_get, Option, Some, None}
use Rattle.std.specs.List.{Contains}

-- what stands at the places that are filled
abbrev pub somes : {X : Type 0} → List (Option X) → List X
somes [] = []
somes (None ∷ slots) = somes slots
somes (Some x ∷ slots) = x ∷ somes slots

-- each place is filled, by an answer of its number
abbrev pub IsPlaced : {X : Type 0} → List (ℕ × X) → List (Option X) → Type 0
IsPlaced {X} kept slots = (n : ℕ) → n < length slots → (x : X) × (slice_get slots n ≡ Some (Some x)) × Contains kept (n, x)

-- there are so many, and at each place one of that number
abbrev pub AreThere : {X : Type 0} → List (ℕ × X) → ℕ → List X → Type 0
AreThere {X} kept count all = (length all ≡ count) × ((n : ℕ) → n < count → (x : X) × (slice_get all n ≡ Some x) × Contains kept (n, x))
