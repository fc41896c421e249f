-- What numbers reach along edges.
use Rattle.std.specs.Prelude.{◌≡◌, ℕ, ◌<◌, List, slice_get, Some}
use Rattle.graph_search.specs.Cycles.{Leads, Has, Edge}

-- one of the starts leads to y, in no step or in some
abbrev pub IsReached : List (List ℕ) → List ℕ → ℕ → Type 0
IsReached edges starts y = (s : ℕ) × Has starts s × Leads (Edge edges) s y

-- each number is above those before it
abbrev pub IsRising : List ℕ → Type 0
IsRising xs = (i j x y : ℕ) → i < j → slice_get xs i ≡ Some x → slice_get xs j ≡ Some y → x < y

-- exactly the numbers that the starts reach, rising
pub record AreReached (edges : List (List ℕ)) (starts reached : List ℕ) : Type 0 where
  pub rising : IsRising reached
  pub sound : (y : ℕ) → Has reached y → IsReached edges starts y
  pub complete : (y : ℕ) → IsReached edges starts y → Has reached y
