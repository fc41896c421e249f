-- The numbers of the modules that signatures name.
use Rattle.std.specs.Prelude.{◌≡◌, ◌<◌, ℕ, List, length, slice_get, Some}
use Rattle.flow_base.specs.Program.{Bytes}
use Rattle.check_values.specs.declared.signatures.Sig.{Sig}
use Rattle.graph_search.specs.Cycles.{Has, Edge}
use Rattle.merged_signatures.specs.Reach.{paths_named}
use Rattle.recheck_merging.specs.path_numbers.specs.Ways.{IsStep}

-- one of the first of some paths is that of a number
abbrev pub IsNumberOf : List Bytes → List Bytes → ℕ → ℕ → Type 0
IsNumberOf paths some i y = (k : ℕ) × (path : Bytes) × (k < i) × (slice_get some k ≡ Some path) × (slice_get paths y ≡ Some path)

-- exactly the numbers of the first of some paths
pub record FollowPaths (paths some : List Bytes) (i : ℕ) (numbers : List ℕ) : Type 0 where
  pub sound : (y : ℕ) → Has numbers y → IsNumberOf paths some i y
  pub complete : (y : ℕ) → IsNumberOf paths some i y → Has numbers y

-- exactly those of the paths that a signature names
abbrev pub FollowNames : List Bytes → Sig → List ℕ → Type 0
FollowNames paths sig numbers = FollowPaths paths (paths_named sig) (length (paths_named sig)) numbers

-- the signature of one number names the path of the other
abbrev pub NamesNumber : List Bytes → List Sig → ℕ → ℕ → Type 0
NamesNumber paths sigs x y = (sig : Sig) × (slice_get sigs x ≡ Some sig) × IsNumberOf paths (paths_named sig) (length (paths_named sig)) y

-- of the signatures of these numbers exactly what they name, and of no others
pub record FollowNamesOf (paths : List Bytes) (sigs : List Sig) (numbers : List ℕ) (named : List (List ℕ)) : Type 0 where
  pub len : length named ≡ length sigs
  pub sound : (x y : ℕ) → Edge named x y → Has numbers x × NamesNumber paths sigs x y
  pub complete : (x y : ℕ) → Has numbers x → NamesNumber paths sigs x y → Edge named x y

-- the steps from the paths at these places alone, as edges
pub record AreStepsOf (Along : Bytes → Bytes → Type 0) (paths : List Bytes) (numbers : List ℕ) (edges : List (List ℕ)) : Type 0 where
  pub len : length edges ≡ length paths
  pub sound : (x y : ℕ) → Edge edges x y → Has numbers x × IsStep Along paths x y
  pub complete : (x y : ℕ) → Has numbers x → IsStep Along paths x y → Edge edges x y
