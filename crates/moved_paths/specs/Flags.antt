-- Flags beside rows.
use Rattle.std.specs.Prelude.{◌≡◌, ◌<◌, ℕ, Bool, true, false, List, [], ◌∷◌, length, slice_get, Option, Some}
use Rattle.graph_search.specs.Cycles.{IsOn}

-- the elements whose flag is off, in order
abbrev pub where_off : {X : Type 0} → List Bool → List X → List X
where_off [] xs = []
where_off (on ∷ flags) [] = []
where_off (true ∷ flags) (x ∷ xs) = where_off flags xs
where_off (false ∷ flags) (x ∷ xs) = x ∷ where_off flags xs

-- one of the first of some numbers is this one
abbrev pub IsAmongFirst : List (Option ℕ) → ℕ → ℕ → Type 0
IsAmongFirst from i o = (x : ℕ) × (x < i) × (slice_get from x ≡ Some (Some o))

-- there are so many flags, and one is on exactly where its number is one of the first of these
pub record AreMet (from : List (Option ℕ)) (many i : ℕ) (flags : List Bool) : Type 0 where
  pub as_many : length flags ≡ many
  pub sound : (o : ℕ) → IsOn flags o → IsAmongFirst from i o
  pub complete : (o : ℕ) → o < many → IsAmongFirst from i o → IsOn flags o
