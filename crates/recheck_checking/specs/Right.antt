-- Why the errors that are kept are right.
use Rattle.std.specs.Prelude.{◌≡◌, ◌<◌, ℕ, List, All, length, Option}
use Rattle.check_values.specs.declared.faults.Errs.{Errs}
use Rattle.check_values.specs.declared.signatures.Sig.{Sig}
use Rattle.edited_root.specs.program_check.specs.Full.{Results, IsFull}
use Rattle.edited_root.specs.affected_law.specs.Affected.{Checked}
use Rattle.recheck_merging.specs.affected_sizes.specs.Paths.{ArePaths}
use Rattle.recheck_merging.specs.path_numbers.specs.Sets.{paths_at}
use Rattle.recheck_merging.specs.check_phases.specs.Phases.{AreMerged}
use Rattle.recheck_merging.specs.check_phases.specs.Sourced.{program_in, paths_in, view_in, AreSources}
use Rattle.recheck_merging.specs.check_phases.specs.Whole.{AreMade}
use Rattle.recheck_merging.specs.check_phases.specs.declared.merging.Sources.{Sources}
use Rattle.recheck_merging.specs.check_phases.specs.declared.phases.Made.{Made}
use Rattle.edited_root.specs.From.{numbers_from}
use Rattle.recheck_checking.specs.Checking.{AreCheckedTo}
use Rattle.recheck_checking.specs.Full.{results_of}
use Rattle.recheck_checking.specs.Keeping.{AreKept}

-- the modules of these numbers are those that are to be checked, by some full check of the new program
pub record AreToCheck (was : Made) (s : Sources) (checked : List ℕ) : Type 0 where
  pub after : List Results
  pub full : IsFull (program_in s) after
  pub within : All (λ x. x < length s.root.modules) checked
  pub paths : ArePaths (Checked (program_in was.sources) (program_in s) (results_of was) after) (paths_at (paths_in s) checked)

-- What is kept is right, where all is checked that the edit affects: nothing is checked yet.
abbrev pub KeptErrorsAreRight : Type 0
KeptErrorsAreRight =
    (was : Made) (s : Sources) (sigs : List Sig) (from : List (Option ℕ)) (checked : List ℕ) (slots : List (Option Errs)) → AreMade was → AreSources s
    → AreMerged (view_in s) (program_in s) sigs → from ≡ numbers_from was.sources.root s.root → AreToCheck was s checked → AreKept was.errors.items from checked slots
    → AreCheckedTo s sigs checked 0 slots
