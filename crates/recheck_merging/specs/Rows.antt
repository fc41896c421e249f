-- The numbers of the modules that dependency lists find, row by row.
use Rattle.std.specs.Prelude.{◌≡◌, ◌⊎◌, ℕ, ◌<◌, List, length, slice_get, Option, Some}
use Rattle.std.specs.List.{AllZip}
use Rattle.flow_base.specs.Program.{Bytes}
use Rattle.check_values.specs.declared.signatures.DepRow.{DepRow}
use Rattle.check_values.specs.declared.signatures.Deps.{Deps}
use Rattle.graph_search.specs.Cycles.{Has}

-- the path that was found, if one was, is that of a number
abbrev pub IsFoundAt : List Bytes → Option Bytes → ℕ → Type 0
IsFoundAt paths found y = (path : Bytes) × (found ≡ Some path) × (slice_get paths y ≡ Some path)

-- its number was added, and no other
pub record AddsFound (paths : List Bytes) (found : Option Bytes) (old new : List ℕ) : Type 0 where
  pub keeps : (y : ℕ) → Has old y → Has new y
  pub adds : (y : ℕ) → IsFoundAt paths found y → Has new y
  pub only : (y : ℕ) → Has new y → Has old y ⊎ IsFoundAt paths found y

-- one of the first rows finds the path of a number
abbrev pub IsFoundBy : List Bytes → List DepRow → ℕ → ℕ → Type 0
IsFoundBy paths rows i y = (k : ℕ) × (row : DepRow) × (k < i) × (slice_get rows k ≡ Some row) × IsFoundAt paths row.found y

-- exactly the numbers that the first rows find
pub record FollowRows (paths : List Bytes) (rows : List DepRow) (i : ℕ) (edges : List ℕ) : Type 0 where
  pub sound : (y : ℕ) → Has edges y → IsFoundBy paths rows i y
  pub complete : (y : ℕ) → IsFoundBy paths rows i y → Has edges y

-- exactly those that a list finds
abbrev pub FollowList : List Bytes → Deps → List ℕ → Type 0
FollowList paths deps edges = FollowRows paths deps.rows (length deps.rows) edges

-- and so for each list, in order
abbrev pub FollowLists : List Bytes → List Deps → List (List ℕ) → Type 0
FollowLists paths lists edges = AllZip (FollowList paths) lists edges
