-- All results of the modules of a program, and the work of it.
use Rattle.std.specs.Prelude.{◌≡◌, List, length}
use Rattle.check_values.specs.Rows.{row_at}
use Rattle.check_values.specs.declared.signatures.Sig.{Sig}
use Rattle.errors_by_reach.specs.Seen.{Sigs}
use Rattle.payloads.specs.program_check.specs.Full.{beside}
use Rattle.check_phases.specs.Phases.{AreMerged, AreChecked}
use Rattle.check_phases.specs.Sourced.{program_in, view_in, AreSources}
use Rattle.check_phases.specs.declared.merging.Sources.{Sources}
use Rattle.check_phases.specs.declared.phases.Made.{Made}

-- the merged signatures, by paths
abbrev pub sigs_by : Sources → List Sig → Sigs
sigs_by s sigs = row_at (beside (program_in s) sigs)

-- all results of the modules
pub record AreMade (made : Made) : Type 0 where
  pub sources : AreSources made.sources
  pub merged : AreMerged (view_in made.sources) (program_in made.sources) made.signatures.items
  pub checked : AreChecked (sigs_by made.sources made.signatures.items) (program_in made.sources) made.sources.parses.items made.sources.lists.items made.errors.items
  pub many : length made.errors.items ≡ length made.sources.root.modules
