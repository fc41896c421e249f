-- Which modules are to be checked.
use Rattle.std.specs.Prelude.{◌≡◌, ◌⊎◌, ℕ, Bool, List, slice_get, Some}
use Rattle.flow_base.specs.Program.{Bytes}
use Rattle.check_values.specs.declared.signatures.Sig.{Sig}
use Rattle.graph_search.specs.Cycles.{Has, IsOn}
use Rattle.merged_signatures.specs.Imports.{Imports}
use Rattle.recheck_merging.specs.affected_sizes.specs.Polls.{IsImport}
use Rattle.recheck_merging.specs.recheck_law.specs.Names.{LeadsByNames}
use Rattle.recheck_merging.specs.check_phases.specs.Sourced.{paths_in, view_in}
use Rattle.recheck_merging.specs.check_phases.specs.Whole.{sigs_by}
use Rattle.recheck_merging.specs.check_phases.specs.declared.merging.Sources.{Sources}

-- the module of a number leads by names to one whose signature moved
pub record IsStirred (s : Sources) (sigs : List Sig) (moved : List Bool) (x : ℕ) : Type 0 where
  pub number : ℕ
  pub path : Bytes
  pub other : Bytes
  pub has_moved : IsOn moved number
  pub at_path : slice_get (paths_in s) x ≡ Some path
  pub at_other : slice_get (paths_in s) number ≡ Some other
  pub leads : LeadsByNames (sigs_by s sigs) path other

-- each module from which imports lead to one whose signature moved is among these
abbrev pub AreLeading : Sources → List Bool → List ℕ → Type 0
AreLeading s moved leading =
    (x number : ℕ) (path other : Bytes) → IsOn moved number → slice_get (paths_in s) x ≡ Some path → slice_get (paths_in s) number ≡ Some other → Imports (view_in s) path other → Has leading x

-- it is a changed one, or finds one that leads by names to one whose signature moved
abbrev pub IsToCheckIn : Sources → List Sig → List Bool → List ℕ → ℕ → Type 0
IsToCheckIn s sigs moved changed x = Has changed x ⊎ ((y : ℕ) × IsImport (view_in s) (paths_in s) x y × IsStirred s sigs moved y)
