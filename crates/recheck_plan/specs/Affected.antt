-- Which modules an edit affects, as numbers: number x has an edge to each number in list x.
use Rattle.std.specs.Prelude.{ℕ, ◌⊎◌, List}
use Rattle.graph_search.specs.Cycles.{Leads, Has, Edge}
use Rattle.graph_search.specs.Reach.{IsRising}

-- exactly the numbers of this kind, rising
pub record AreExactly (IsOfKind : ℕ → Type 0) (all : List ℕ) : Type 0 where
  pub rising : IsRising all
  pub sound : (x : ℕ) → Has all x → IsOfKind x
  pub complete : (x : ℕ) → IsOfKind x → Has all x

-- x leads to a touched number, in no step or in some
abbrev pub LeadsToTouched : List (List ℕ) → List ℕ → ℕ → Type 0
LeadsToTouched edges touched x = (t : ℕ) × Has touched t × Leads (Edge edges) x t

-- x is touched, or its list has a moved number
abbrev pub IsToCheck : List (List ℕ) → List ℕ → List ℕ → ℕ → Type 0
IsToCheck reach touched moved x = Has touched x ⊎ ((m : ℕ) × Edge reach x m × Has moved m)
