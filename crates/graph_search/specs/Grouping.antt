-- Numbers sorted into lists, and which of the lists are components.
use Rattle.std.specs.Prelude.{◌≡◌, ℕ, ◌<◌, List, [], ◌∷◌, ◌++◌, length, slice_get, Some, Bool, false}
use Rattle.graph_search.specs.Cycles.{Has}
use Rattle.graph_search.specs.Reach.{IsRising}
use Rattle.graph_search.specs.Components.{StandsIn, Begins}

-- x was put behind the last of list k
pub record HasPut (k x : ℕ) (before after : List (List ℕ)) : Type 0 where
  pub len : length after ≡ length before
  pub there : (xs : List ℕ) × (slice_get before k ≡ Some xs) × (slice_get after k ≡ Some (xs ++ x ∷ []))
  pub others : (j : ℕ) → ¬ (j ≡ k) → slice_get after j ≡ slice_get before j

-- list k has the first i places at which k stands among `keys`, rising, and no others
pub record AreFilled (keys : List ℕ) (count i : ℕ) (lists : List (List ℕ)) : Type 0 where
  pub len : length lists ≡ count
  pub rising : (k : ℕ) (xs : List ℕ) → slice_get lists k ≡ Some xs → IsRising xs
  pub there : (x k : ℕ) → x < i → slice_get keys x ≡ Some k → StandsIn lists k x
  pub only : (k x : ℕ) → StandsIn lists k x → (x < i) × (slice_get keys x ≡ Some k)

-- list k has exactly the places at which k stands among `keys`, rising
pub record AreSorted (keys : List ℕ) (count : ℕ) (lists : List (List ℕ)) : Type 0 where
  pub len : length lists ≡ count
  pub rising : (k : ℕ) (xs : List ℕ) → slice_get lists k ≡ Some xs → IsRising xs
  pub there : (x k : ℕ) → slice_get keys x ≡ Some k → StandsIn lists k x
  pub only : (k x : ℕ) → StandsIn lists k x → slice_get keys x ≡ Some k

-- `members` is the list of x, and x its first
abbrev pub IsFirstOf : List ℕ → List (List ℕ) → ℕ → List ℕ → Type 0
IsFirstOf classes lists x members = (c : ℕ) × (slice_get classes x ≡ Some c) × (slice_get lists c ≡ Some members) × (slice_get members 0 ≡ Some x)

-- the lists of which one of the first i numbers is the first, in its order
pub record AreTaken (classes : List ℕ) (lists : List (List ℕ)) (i : ℕ) (taken : List (List ℕ)) : Type 0 where
  pub sound : (k : ℕ) (members : List ℕ) → slice_get taken k ≡ Some members → (x : ℕ) × (x < i) × IsFirstOf classes lists x members
  pub complete : (x : ℕ) (members : List ℕ) → x < i → IsFirstOf classes lists x members → (k : ℕ) × (slice_get taken k ≡ Some members)
  pub order : (k j x y : ℕ) → k < j → Begins taken k x → Begins taken j y → x < y

-- the first i places whose mark is off, rising
pub record AreUnmarked (marks : List Bool) (i : ℕ) (all : List ℕ) : Type 0 where
  pub rising : IsRising all
  pub sound : (x : ℕ) → Has all x → (x < i) × (slice_get marks x ≡ Some false)
  pub complete : (x : ℕ) → x < i → slice_get marks x ≡ Some false → Has all x
