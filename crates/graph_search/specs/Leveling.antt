-- Levels of components that only rise, and stand still where they are the waves.
use Rattle.std.specs.Prelude.{◌≡◌, ◌≢◌, ℕ, ◌+◌, ◌-◌, ◌<◌, ◌≤◌, Bool, IsTrue, List, [], ◌∷◌, length, slice_get, slice_set, Some}
use Rattle.graph_search.specs.Cycles.{Edge}
use Rattle.graph_search.specs.Components.{StandsIn, AreComponents}

-- the owner of a number is the number of its component
pub record AreOwners (edges components : List (List ℕ)) (owners : List ℕ) : Type 0 where
  pub len : length owners ≡ length edges
  pub given : (x k : ℕ) → StandsIn components k x → slice_get owners x ≡ Some k
  pub stands : (x k : ℕ) → slice_get owners x ≡ Some k → StandsIn components k x

-- the owners of the numbers are their components, of which there are so many
abbrev pub IsOwned : List (List ℕ) → List ℕ → ℕ → Type 0
IsOwned edges owners count = (components : List (List ℕ)) × AreComponents edges components × AreOwners edges components owners × (length components ≡ count)

-- a number of k has an edge to one of j, which is another
abbrev pub Asks : List (List ℕ) → List ℕ → ℕ → ℕ → Type 0
Asks edges owners k j = (k ≢ j) × ((x : ℕ) × (y : ℕ) × (slice_get owners x ≡ Some k) × (slice_get owners y ≡ Some j) × Edge edges x y)

-- no level is higher than what its component asks for needs
pub record AreLow (edges : List (List ℕ)) (owners : List ℕ) (count : ℕ) (levels : List ℕ) : Type 0 where
  pub len : length levels ≡ count
  -- a level above 0 is at most one above that of some component for which its own asks
  pub low : (k w : ℕ) → slice_get levels k ≡ Some (w + 1) → (j : ℕ) × (v : ℕ) × Asks edges owners k j × (slice_get levels j ≡ Some v) × (w ≤ v)

-- how far the levels may still rise, each up to n
abbrev pub room : ℕ → List ℕ → ℕ
room n [] = 0
room n (level ∷ levels) = (n - level) + room n levels

-- the levels rose, or they stand still, as `rose` tells
pub record Rises (before after : List ℕ) (rose : Bool) : Type 0 where
  pub len : length after ≡ length before
  -- where they rose, there is less room left
  pub less : IsTrue rose → room (length before) after < room (length before) before
  pub still : ¬ (IsTrue rose) → after ≡ before

-- the level of k is above that of j
abbrev pub IsAbove : List ℕ → ℕ → ℕ → Type 0
IsAbove levels k j = (w v : ℕ) → slice_get levels k ≡ Some w → slice_get levels j ≡ Some v → v < w

-- k rose above j, or it was above
pub record IsRaised (k j : ℕ) (before after : List ℕ) (rose : Bool) : Type 0 where
  pub risen : IsTrue rose → (u : ℕ) × (v : ℕ) × (slice_get before k ≡ Some u) × (slice_get before j ≡ Some v) × (u ≤ v) × (after ≡ slice_set before k (v + 1))
  pub still : ¬ (IsTrue rose) → (after ≡ before) × IsAbove before k j

-- k is above the owner of y, or owns y
abbrev pub IsOver : List ℕ → List ℕ → ℕ → ℕ → Type 0
IsOver owners levels k y = (j : ℕ) → slice_get owners y ≡ Some j → k ≢ j → IsAbove levels k j

-- k rose above the owner of y, or it was above, or owns y
pub record IsRaisedOver (owners : List ℕ) (k y : ℕ) (before after : List ℕ) (rose : Bool) : Type 0 where
  pub risen : IsTrue rose → (j : ℕ) × (slice_get owners y ≡ Some j) × (k ≢ j) × IsRaised k j before after rose
  pub still : ¬ (IsTrue rose) → (after ≡ before) × IsOver owners before k y

-- the owner of x is above the others to which x has an edge
abbrev pub IsHigh : List (List ℕ) → List ℕ → List ℕ → ℕ → Type 0
IsHigh edges owners levels x = (k y : ℕ) → slice_get owners x ≡ Some k → Edge edges x y → IsOver owners levels k y

-- the owner of x rose, or it was high
pub record HasRisen (edges : List (List ℕ)) (owners : List ℕ) (x : ℕ) (before after : List ℕ) (rose : Bool) : Type 0 where
  pub low : AreLow edges owners (length before) after
  pub rises : Rises before after rose
  -- where nothing rose, the owner of x was high
  pub high : ¬ (IsTrue rose) → IsHigh edges owners after x

-- one of the owners of the first n numbers rose, or they were high
pub record HaveRisen (edges : List (List ℕ)) (owners : List ℕ) (n : ℕ) (before after : List ℕ) (rose : Bool) : Type 0 where
  pub low : AreLow edges owners (length before) after
  pub rises : Rises before after rose
  -- where nothing rose, the owners of the first n were high
  pub high : ¬ (IsTrue rose) → (x : ℕ) → x < n → IsHigh edges owners after x

-- each level is one above the highest of those for which its component asks
pub record AreLevels (edges : List (List ℕ)) (owners : List ℕ) (count : ℕ) (levels : List ℕ) : Type 0 where
  pub low : AreLow edges owners count levels
  -- a component is above each for which it asks
  pub high : (k j : ℕ) → Asks edges owners k j → IsAbove levels k j
