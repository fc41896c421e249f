-- How modules are checked, batch by batch, beside errors that are kept.
use Rattle.std.specs.Prelude.{◌≡◌, ◌<◌, ℕ, List, map, length, slice_get, Option, Some}
use Rattle.check_values.specs.Rows.{Rows, row_at}
use Rattle.check_values.specs.declared.faults.Errs.{Errs}
use Rattle.check_values.specs.declared.signatures.Sig.{Sig}
use Rattle.edited_root.specs.program_check.specs.Full.{beside}
use Rattle.graph_search.specs.Cycles.{Has}
use Rattle.recheck_merging.specs.check_phases.specs.Phases.{AreChecked, IsCheckedAt}
use Rattle.recheck_merging.specs.check_phases.specs.Sourced.{program_in, AreSources}
use Rattle.recheck_merging.specs.check_phases.specs.Whole.{sigs_by}
use Rattle.recheck_merging.specs.check_phases.specs.declared.merging.Sources.{Sources}
use Rattle.signature_reach.specs.Along.{AgreeForAll}
use Rattle.recheck_checking.specs.Keeping.{IsFilled, AreFilled}

-- the signatures of all modules by their paths
abbrev pub rows_by : Sources → List Sig → Rows Sig
rows_by s sigs = beside (program_in s) sigs

-- some rows of signatures say what those of all modules do, where each module of some numbers reaches
abbrev pub TellsAll : Sources → List Sig → List ℕ → Rows Sig → Type 0
TellsAll s sigs checked rows = AgreeForAll (sigs_by s sigs) s.lists.items checked (row_at rows)

-- these are the errors of the module of a number, by these signatures of all modules
abbrev pub IsCheckedBy : Sources → List Sig → ℕ → Errs → Type 0
IsCheckedBy s sigs x errs = IsCheckedAt (sigs_by s sigs) (program_in s) s.parses.items s.lists.items x errs

-- All errors that are known are right; those of the modules that are not to be checked are known, and those of the first ones that are.
pub record AreCheckedTo (s : Sources) (sigs : List Sig) (checked : List ℕ) (done : ℕ) (slots : List (Option Errs)) : Type 0 where
  pub many : length slots ≡ length s.root.modules
  pub right : (x : ℕ) (errs : Errs) → slice_get slots x ≡ Some (Some errs) → IsCheckedBy s sigs x errs
  pub kept : (x : ℕ) → x < length s.root.modules → ¬ (Has checked x) → IsFilled slots x
  pub so_far : (i x : ℕ) → i < done → slice_get checked i ≡ Some x → IsFilled slots x

-- these are the errors of all modules
pub record AreAllErrors (s : Sources) (sigs : List Sig) (errors : List Errs) : Type 0 where
  pub checked : AreChecked (sigs_by s sigs) (program_in s) s.parses.items s.lists.items errors
  pub many : length errors ≡ length s.root.modules

-- Behind the last batch the errors of all modules are known, and are those of the program.
abbrev pub AllAreChecked : Type 0
AllAreChecked =
    (s : Sources) (sigs : List Sig) (checked : List ℕ) (slots : List (Option Errs)) → AreSources s → AreCheckedTo s sigs checked (length checked) slots
    → AreFilled slots × ((errors : List Errs) → map Some errors ≡ slots → AreAllErrors s sigs errors)
