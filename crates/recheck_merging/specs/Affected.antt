-- The plan of what differs is that of the paths that an edit affects.
use Rattle.std.specs.Prelude.{◌≡◌, ℕ, List}
use Rattle.flow_base.specs.Program.{Program}
use Rattle.check_phases.specs.program_check.specs.Full as full
use Rattle.check_phases.specs.program_check.specs.Full.{Results}
use Rattle.path_numbers.specs.affected_law.specs.Affected.{Differs, Merged}
use Rattle.path_numbers.specs.affected_sizes.specs.Paths.{ArePaths}
use Rattle.path_numbers.specs.affected_sizes.specs.Polls.{AreWavesAmong}
use Rattle.path_numbers.specs.Sets.{paths_at, ArePlaces}
use Rattle.check_phases.specs.Sourced.{program_in, paths_in, view_in, AreSources}
use Rattle.check_phases.specs.declared.merging.Sources.{Sources}
use Rattle.recheck_merging.specs.Plans.{IsPlanOf}
use Rattle.recheck_merging.specs.declared.planning.MergePlan.{MergePlan}

-- The modules of the plan are those of `Merged`, and its waves are those of the import edges among them.
pub record IsOfMerged (old new : Program) (before after : List Results) (s : Sources) (p : MergePlan) : Type 0 where
  pub merged : ArePaths (Merged old new before after) (paths_at (paths_in s) p.merged)
  pub waves : AreWavesAmong (full.view_in new after) (paths_at (paths_in s) p.merged) p.waves

-- So it is where the touched numbers are those of the modules of which what merging sees differs.
abbrev pub PlansAreOfMerged : Type 0
PlansAreOfMerged =
    (s : Sources) (touched : List ℕ) (p : MergePlan) (old : Program) (before after : List Results) → AreSources s → full.view_in (program_in s) after ≡ view_in s
    → ArePlaces (Differs (full.view_in old before) (full.view_in (program_in s) after)) (paths_in s) touched → IsPlanOf s touched p
    → IsOfMerged old (program_in s) before after s p
