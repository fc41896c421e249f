-- The sets that an edit affects, by the places of their paths in the new program.
use Rattle.std.specs.Prelude.{◌≡◌, ◌≢◌, ◌⊎◌, ℕ, List, [], map, get_or, slice_get, Some}
use Rattle.flow_base.specs.Program.{Bytes, Program, IsRising, paths_of}
use Rattle.graph_search.specs.Cycles.{Has}
use Rattle.recheck_plan.specs.Affected.{AreExactly, LeadsToTouched, IsToCheck}
use Rattle.affected_sizes.specs.program_check.specs.Full.{Results, view_in, sigs_in, IsFull}
use Rattle.affected_sizes.specs.affected_law.specs.Affected.{results_at, Differs, Parsed, Merged, Checked}
use Rattle.affected_sizes.specs.Paths.{ArePaths}
use Rattle.affected_sizes.specs.Polls.{AreImports}
use Rattle.recheck_law.specs.Names.{Names, LeadsToMoved}
use Rattle.path_numbers.specs.Ways.{AreSteps}

-- the paths at these places
abbrev pub paths_at : List Bytes → List ℕ → List Bytes
paths_at paths all = map (λ x. get_or paths x []) all

-- exactly the places of the paths of which it holds
pub record ArePlaces (Holds : Bytes → Type 0) (paths : List Bytes) (all : List ℕ) : Type 0 where
  pub sound : (x : ℕ) → Has all x → (path : Bytes) × (slice_get paths x ≡ Some path) × Holds path
  pub complete : (x : ℕ) (path : Bytes) → slice_get paths x ≡ Some path → Holds path → Has all x

-- This holds of two programs with the full check of the new one, whose paths rise.
abbrev pub OfNew : ((old new : Program) (before after : List Results) → Type 0) → Type 0
OfNew Holds = (old new : Program) (before after : List Results) → IsFull new after → IsRising (paths_of new) → Holds old new before after

-- What leads along imports to a place whose module differs is what is merged.
abbrev pub MergedAreNumbers : Type 0
MergedAreNumbers =
    OfNew (λ old new before after. (edges : List (List ℕ)) (touched all : List ℕ) → AreImports (view_in new after) (paths_of new) edges
    → ArePlaces (Differs (view_in old before) (view_in new after)) (paths_of new) touched → AreExactly (LeadsToTouched edges touched) all
    → ArePaths (Merged old new before after) (paths_at (paths_of new) all))

-- What leads along names to a place whose signature differs leads to one that moved.
abbrev pub StirredAreNumbers : Type 0
StirredAreNumbers =
    OfNew (λ old new before after. (named : List (List ℕ)) (moved stirred : List ℕ) → AreSteps (Names (sigs_in new after)) (paths_of new) named
    → ArePlaces (Differs (sigs_in old before) (sigs_in new after)) (paths_of new) moved → AreExactly (LeadsToTouched named moved) stirred
    → ArePlaces (LeadsToMoved old new before after) (paths_of new) stirred)

-- the text or the dependency list of the path differs, or it is new
abbrev pub IsNewOrDiffers : (old new : Program) (before after : List Results) → Bytes → Type 0
IsNewOrDiffers old new before after path =
    Parsed old new path
    ⊎ ((r : Results) × (s : Results) × (results_at old before path ≡ Some r) × (results_at new after path ≡ Some s) × (s.deps ≢ r.deps))

-- What differs itself, or finds a module that leads to one that moved, is what is checked.
abbrev pub CheckedAreNumbers : Type 0
CheckedAreNumbers =
    OfNew (λ old new before after. (edges : List (List ℕ)) (touched stirred all : List ℕ) → AreImports (view_in new after) (paths_of new) edges
    → ArePlaces (IsNewOrDiffers old new before after) (paths_of new) touched → ArePlaces (LeadsToMoved old new before after) (paths_of new) stirred
    → AreExactly (IsToCheck edges touched stirred) all → ArePaths (Checked old new before after) (paths_at (paths_of new) all))
