-- Cycles of edges between numbers.
use Rattle.std.specs.Prelude.{◌≡◌, ℕ, ◌<◌, Bool, true, List, length, slice_get, Some, All}

-- zero or more steps
pub data Leads {X : Type 0} (Along : X → X → Type 0) : X → X → Type 0 where
  here : {p : X} → Leads Along p p
  along : {p q r : X} → Along p q → Leads Along q r → Leads Along p r

-- x stands somewhere in the list
abbrev pub Has : List ℕ → ℕ → Type 0
Has xs x = (i : ℕ) × (slice_get xs i ≡ Some x)

-- the list of x has y
abbrev pub Edge : List (List ℕ) → ℕ → ℕ → Type 0
Edge edges x y = (ys : List ℕ) × (slice_get edges x ≡ Some ys) × Has ys y

-- one step or more leads from x back to x
abbrev pub IsOnCycle : List (List ℕ) → ℕ → Type 0
IsOnCycle edges x = (y : ℕ) × Edge edges x y × Leads (Edge edges) y x

-- the mark of x is on
abbrev pub IsOn : List Bool → ℕ → Type 0
IsOn marks x = slice_get marks x ≡ Some true

-- every edge ends at a number that has a list
abbrev pub AreWithin : List (List ℕ) → Type 0
AreWithin edges = All (λ ys. All (λ y. y < length edges) ys) edges

-- exactly the numbers on cycles are marked
pub record AreCycleMarks (edges : List (List ℕ)) (marks : List Bool) : Type 0 where
  pub len : length marks ≡ length edges
  pub sound : (x : ℕ) → IsOn marks x → IsOnCycle edges x
  pub complete : (x : ℕ) → IsOnCycle edges x → IsOn marks x
