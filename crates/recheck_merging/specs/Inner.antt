-- Edges between numbers, as edges between the places of some of the numbers.
use Rattle.std.specs.Prelude.{◌≡◌, ◌<◌, ℕ, List, [], map, get_or, slice_get, Option, Some, None, option_to_list}
use Rattle.std.specs.List.{flat_map}

-- the place of a number stands in its slot, for the first places
pub record ArePlacesTo (numbers : List ℕ) (n : ℕ) (places : List (Option ℕ)) : Type 0 where
  pub sound : (x i : ℕ) → slice_get places x ≡ Some (Some i) → slice_get numbers i ≡ Some x
  pub complete : (x i : ℕ) → i < n → slice_get numbers i ≡ Some x → slice_get places x ≡ Some (Some i)

-- the places of some numbers, where they have one
abbrev pub placed : List (Option ℕ) → List ℕ → List ℕ
placed places ys = flat_map (λ y. option_to_list (get_or places y None)) ys

-- the lists of some numbers
abbrev pub lists_of : List (List ℕ) → List ℕ → List (List ℕ)
lists_of edges numbers = map (λ x. get_or edges x []) numbers
