-- All results as a full check.
use Rattle.std.specs.Prelude.{◌≡◌, List}
use Rattle.check_values.specs.declared.signatures.Sig.{Sig}
use Rattle.edited_root.specs.program_check.specs.Full as full
use Rattle.edited_root.specs.program_check.specs.Full.{Results, IsFull}
use Rattle.recheck_merging.specs.check_phases.specs.Phases.{AreMerged, results_by}
use Rattle.recheck_merging.specs.check_phases.specs.Sourced.{program_in, view_in, AreSources}
use Rattle.recheck_merging.specs.check_phases.specs.Whole.{sigs_by, AreMade}
use Rattle.recheck_merging.specs.check_phases.specs.declared.merging.Sources.{Sources}
use Rattle.recheck_merging.specs.check_phases.specs.declared.phases.Made.{Made}

-- the results of each module
abbrev pub results_of : Made → List Results
results_of made = results_by made.sources.parses.items made.sources.lists.items made.signatures.items made.errors.items

-- All results of a program are its full check.
abbrev pub MadeIsFull : Type 0
MadeIsFull = (made : Made) → AreMade made → IsFull (program_in made.sources) (results_of made)

-- results see the modules as sources do, and have these signatures
pub record SeesAs (s : Sources) (sigs : List Sig) (results : List Results) : Type 0 where
  pub seen : full.view_in (program_in s) results ≡ view_in s
  pub signed : full.sigs_in (program_in s) results ≡ sigs_by s sigs

-- Each full check of a program sees the modules as their sources do, and has their merged signatures.
abbrev pub ChecksSeeSources : Type 0
ChecksSeeSources =
    (s : Sources) (sigs : List Sig) (results : List Results) → AreSources s → AreMerged (view_in s) (program_in s) sigs → IsFull (program_in s) results → SeesAs s sigs results
