-- A search among the numbers that are open: what it comes to is closed, and listed.
use Rattle.std.specs.Prelude.{◌≡◌, ℕ, ◌+◌, ◌≤◌, ◌<◌, ◌⊎◌, Bool, true, false, List, [], ◌∷◌, length, slice_get, Some}
use Rattle.graph_search.specs.Cycles.{Leads, Has, Edge, IsOn}
use Rattle.graph_search.specs.Components.{AreMutual}

-- a step between two numbers of Q
abbrev pub Within : {X : Type 0} → (X → X → Type 0) → (X → Type 0) → X → X → Type 0
Within Along Q x y = Along x y × Q x × Q y

-- an open start leads to y through open numbers
abbrev pub IsOpened : List (List ℕ) → List ℕ → List Bool → ℕ → Type 0
IsOpened edges starts opened y = (s : ℕ) × Has starts s × IsOn opened s × Leads (Within (Edge edges) (IsOn opened)) s y

-- how many are open
abbrev pub open_count : List Bool → ℕ
open_count [] = 0
open_count (true ∷ marks) = 1 + open_count marks
open_count (false ∷ marks) = open_count marks

-- those of ys that were open were closed, and listed
pub record Closes (ys : List ℕ) (before : List Bool) (found : List ℕ) (after : List Bool) (listed : List ℕ) : Type 0 where
  pub len : length after ≡ length before
  pub keeps : (z : ℕ) → IsOn after z → IsOn before z
  -- what was found before stays where it is listed
  pub front : (i z : ℕ) → slice_get found i ≡ Some z → slice_get listed i ≡ Some z
  -- what was open stays open, or is listed
  pub split : (z : ℕ) → IsOn before z → IsOn after z ⊎ Has listed z
  -- what is listed was found before, or is one of ys that this closed
  pub fresh : (z : ℕ) → Has listed z → Has found z ⊎ (Has ys z × IsOn before z × ¬ (IsOn after z))
  pub shut : (z : ℕ) → Has ys z → ¬ (IsOn after z)
  -- at least as many are closed as are newly listed
  pub lighter : open_count after + length listed ≤ open_count before + length found

-- a search on its way: the first `at` of what was found have the ends of their edges closed
pub record Search (edges : List (List ℕ)) (starts : List ℕ) (first opened : List Bool) (found : List ℕ) (at : ℕ) : Type 0 where
  pub len : length opened ≡ length first
  -- the starts are closed
  pub starts_shut : (s : ℕ) → Has starts s → ¬ (IsOn opened s)
  pub keeps : (z : ℕ) → IsOn opened z → IsOn first z
  -- what was open at first is open still, or found
  pub split : (z : ℕ) → IsOn first z → IsOn opened z ⊎ Has found z
  pub sound : (z : ℕ) → Has found z → IsOpened edges starts first z
  -- what is found is closed
  pub closed : (z : ℕ) → Has found z → ¬ (IsOn opened z)
  -- what has an edge from one of the first `at` found is closed
  pub done : (i x y : ℕ) → i < at → slice_get found i ≡ Some x → Edge edges x y → ¬ (IsOn opened y)

-- what a search found is exactly what is reached, and it alone was closed
pub record HasFound (edges : List (List ℕ)) (starts : List ℕ) (first opened : List Bool) (found : List ℕ) : Type 0 where
  pub len : length opened ≡ length first
  pub keeps : (z : ℕ) → IsOn opened z → IsOn first z
  -- what was open at first is open still, or found
  pub split : (z : ℕ) → IsOn first z → IsOn opened z ⊎ Has found z
  pub closed : (z : ℕ) → Has found z → ¬ (IsOn opened z)
  pub sound : (z : ℕ) → Has found z → IsOpened edges starts first z
  pub complete : (z : ℕ) → IsOpened edges starts first z → Has found z

-- back has each edge the other way round, and no others
pub record AreReversed (edges back : List (List ℕ)) : Type 0 where
  pub len : length back ≡ length edges
  pub there : (x y : ℕ) → Edge edges x y → Edge back y x
  pub again : (x y : ℕ) → Edge back y x → Edge edges x y

-- the class of a number is one of its component, and all of a component have the same
pub record AreClasses (edges : List (List ℕ)) (classes : List ℕ) : Type 0 where
  pub len : length classes ≡ length edges
  pub sound : (x c : ℕ) → slice_get classes x ≡ Some c → AreMutual edges x c
  pub complete : (x y c : ℕ) → slice_get classes x ≡ Some c → AreMutual edges x y → slice_get classes y ≡ Some c

-- Some components have their class, and the rest is left. What is left is whole components.
pub record IsHalfClassed (edges : List (List ℕ)) (left : List Bool) (classes : List ℕ) : Type 0 where
  pub left_len : length left ≡ length edges
  pub classes_len : length classes ≡ length edges
  pub whole : (x y : ℕ) → AreMutual edges x y → IsOn left x → IsOn left y
  pub sound : (x c : ℕ) → ¬ (IsOn left x) → slice_get classes x ≡ Some c → AreMutual edges x c
  pub complete : (x y c : ℕ) → ¬ (IsOn left x) → slice_get classes x ≡ Some c → AreMutual edges x y → slice_get classes y ≡ Some c

-- each of ys got an edge to x, and no other edge came
pub record Adds (x : ℕ) (ys : List ℕ) (before after : List (List ℕ)) : Type 0 where
  pub len : length after ≡ length before
  pub keeps : (u v : ℕ) → Edge before u v → Edge after u v
  pub adds : (y : ℕ) → Has ys y → Edge after y x
  pub fresh : (u v : ℕ) → Edge after u v → Edge before u v ⊎ (Has ys u × (v ≡ x))

-- the marks of xs were turned on
pub record Marks (xs : List ℕ) (before after : List Bool) : Type 0 where
  pub len : length after ≡ length before
  pub turned : (x : ℕ) → Has xs x → IsOn after x
  pub keeps : (x : ℕ) → IsOn before x → IsOn after x
  pub only : (x : ℕ) → IsOn after x → IsOn before x ⊎ Has xs x

-- p was written at xs, and nothing elsewhere
pub record Writes (xs : List ℕ) (p : ℕ) (before after : List ℕ) : Type 0 where
  pub len : length after ≡ length before
  pub written : (x : ℕ) → Has xs x → slice_get after x ≡ Some p
  pub keeps : (x : ℕ) → ¬ (Has xs x) → slice_get after x ≡ slice_get before x

-- those of xs that were inside are left for later, and none of xs is inside any more
pub record PutsBack (xs : List ℕ) (left inside left_after inside_after : List Bool) : Type 0 where
  pub left_len : length left_after ≡ length left
  pub inside_len : length inside_after ≡ length inside
  pub keeps : (x : ℕ) → IsOn left x → IsOn left_after x
  pub put : (x : ℕ) → Has xs x → IsOn inside x → IsOn left_after x
  pub only : (x : ℕ) → IsOn left_after x → IsOn left x ⊎ (Has xs x × IsOn inside x)
  pub clears : (x : ℕ) → IsOn inside_after x → IsOn inside x × ¬ (Has xs x)
  pub split : (x : ℕ) → IsOn inside x → IsOn inside_after x ⊎ Has xs x

-- n marks, none of them on
pub record IsBlank (n : ℕ) (marks : List Bool) : Type 0 where
  pub len : length marks ≡ n
  pub blank : (x : ℕ) → ¬ (IsOn marks x)
