-- The waves of components: those of a wave depend on components of earlier waves alone.
use Rattle.std.specs.Prelude.{◌≡◌, ◌≢◌, ℕ, ◌+◌, ◌<◌, List, length, slice_get, Some}
use Rattle.graph_search.specs.Cycles.{Edge}
use Rattle.graph_search.specs.Reach.{IsRising}
use Rattle.graph_search.specs.Components.{StandsIn}

-- a member of component k has an edge to a member of another, component j
abbrev pub DependsOn : List (List ℕ) → List (List ℕ) → ℕ → ℕ → Type 0
DependsOn edges components k j = (k ≢ j) × ((x : ℕ) × (y : ℕ) × StandsIn components k x × StandsIn components j y × Edge edges x y)

-- Each component stands in one wave: one behind the last of those on which it depends, and the first where there are none.
-- The first wave is list 0.
pub record AreWaves (edges components waves : List (List ℕ)) : Type 0 where
  -- a wave has a component, and its components rise
  pub each : (w : ℕ) (ks : List ℕ) → slice_get waves w ≡ Some ks → IsRising ks × (0 < length ks)
  -- each component stands in a wave
  pub whole : (k : ℕ) → k < length components → (w : ℕ) × StandsIn waves w k
  -- nothing but components stands in one
  pub within : (w k : ℕ) → StandsIn waves w k → k < length components
  -- a component stands in one wave only
  pub once : (w v k : ℕ) → StandsIn waves w k → StandsIn waves v k → w ≡ v
  -- a component's wave comes behind those of the components on which it depends
  pub later : (k j w v : ℕ) → DependsOn edges components k j → StandsIn waves w k → StandsIn waves v j → v < w
  -- a component of a later wave depends on one of the wave just before
  pub tight : (k w : ℕ) → StandsIn waves (w + 1) k → (j : ℕ) × DependsOn edges components k j × StandsIn waves w j
