-- The strongly connected components of edges between numbers.
use Rattle.std.specs.Prelude.{◌≡◌, ℕ, ◌<◌, List, length, slice_get, Some}
use Rattle.graph_search.specs.Cycles.{Leads, Has, Edge}
use Rattle.graph_search.specs.Reach.{IsRising}

-- each of two numbers leads to the other
abbrev pub AreMutual : List (List ℕ) → ℕ → ℕ → Type 0
AreMutual edges x y = Leads (Edge edges) x y × Leads (Edge edges) y x

-- x stands in list k
abbrev pub StandsIn : List (List ℕ) → ℕ → ℕ → Type 0
StandsIn lists k x = (members : List ℕ) × (slice_get lists k ≡ Some members) × Has members x

-- x is the first of list k
abbrev pub Begins : List (List ℕ) → ℕ → ℕ → Type 0
Begins lists k x = (members : List ℕ) × (slice_get lists k ≡ Some members) × (slice_get members 0 ≡ Some x)

-- each number stands in one component, and two in the same one exactly where each leads to the other
pub record AreComponents (edges components : List (List ℕ)) : Type 0 where
  -- a component has a member, and its members rise
  pub each : (k : ℕ) (members : List ℕ) → slice_get components k ≡ Some members → IsRising members × (0 < length members)
  -- the components stand in the order of their first members
  pub order : (k j x y : ℕ) → k < j → Begins components k x → Begins components j y → x < y
  -- each number stands in a component
  pub whole : (x : ℕ) → x < length edges → (k : ℕ) × StandsIn components k x
  -- only numbers that have a list stand in one
  pub within : (k x : ℕ) → StandsIn components k x → x < length edges
  -- two numbers of one component lead to each other
  pub together : (k x y : ℕ) → StandsIn components k x → StandsIn components k y → AreMutual edges x y
  -- two that lead to each other stand in one component
  pub apart : (k j x y : ℕ) → StandsIn components k x → StandsIn components j y → AreMutual edges x y → k ≡ j
