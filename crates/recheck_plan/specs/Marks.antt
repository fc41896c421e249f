-- Numbers as marks, and what is listed by them.
use Rattle.std.specs.Prelude.{◌≡◌, ℕ, ◌<◌, ◌⊎◌, Bool, List, length}
use Rattle.graph_search.specs.Cycles.{Has, Edge, IsOn}
use Rattle.graph_search.specs.Reach.{IsRising}

-- so many marks, on exactly at these numbers
pub record AreMarksOf (count : ℕ) (numbers : List ℕ) (marks : List Bool) : Type 0 where
  pub len : length marks ≡ count
  pub turned : (x : ℕ) → Has numbers x → IsOn marks x
  pub only : (x : ℕ) → IsOn marks x → Has numbers x

-- one of the numbers is marked
abbrev pub HasMarked : List Bool → List ℕ → Type 0
HasMarked marks numbers = (m : ℕ) × Has numbers m × IsOn marks m

-- x is marked as touched, or its list has a number that is marked as moved
abbrev pub IsMarked : List (List ℕ) → List Bool → List Bool → ℕ → Type 0
IsMarked reach touched moved x = IsOn touched x ⊎ ((m : ℕ) × Edge reach x m × IsOn moved m)

-- exactly the numbers of this kind that are below n, rising
pub record AreBelow (IsOfKind : ℕ → Type 0) (n : ℕ) (all : List ℕ) : Type 0 where
  pub rising : IsRising all
  pub sound : (x : ℕ) → Has all x → (x < n) × IsOfKind x
  pub complete : (x : ℕ) → x < n → IsOfKind x → Has all x
