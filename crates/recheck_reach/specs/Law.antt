-- That the signatures outside of a plan are the old ones, what signatures name, and which paths are parsed and checked.
use Rattle.std.specs.Prelude.{◌≡◌, ℕ, Bool, true, List, length, count_by, Option, Some}
use Rattle.flow_values.specs.Path.{IsRising}
use Rattle.flow_base.specs.Program.{Bytes}
use Rattle.check_values.specs.Roots.{paths_of}
use Rattle.check_values.specs.Rows.{is_among}
use Rattle.check_values.specs.declared.root.Root.{Root}
use Rattle.check_values.specs.declared.signatures.Sig.{Sig}
use Rattle.graph_search.specs.Cycles.{IsOn}
use Rattle.graph_search.specs.Reach as reach
use Rattle.merged_signatures.specs.Chains.{View}
use Rattle.merged_signatures.specs.Imports.{Imports}
use Rattle.merged_signatures.specs.Merged.{merged}
use Rattle.merged_signatures.specs.Reach.{paths_named}
use Rattle.recheck_merging.specs.program_check.specs.Full as full
use Rattle.recheck_merging.specs.program_check.specs.Full.{Results, IsFull}
use Rattle.recheck_sources.specs.affected_law.specs.Affected.{Differs, Parsed, Checked}
use Rattle.recheck_merging.specs.affected_sizes.specs.Paths.{ArePaths}
use Rattle.recheck_plan.specs.Affected.{AreExactly}
use Rattle.recheck_merging.specs.path_numbers.specs.Sets.{paths_at, ArePlaces}
use Rattle.recheck_merging.specs.payloads.specs.State.{program_of}
use Rattle.recheck_sources.specs.edited_root.specs.From.{numbers_from, fresh_from}
use Rattle.recheck_merging.specs.check_phases.specs.Phases.{AreMerged}
use Rattle.recheck_merging.specs.check_phases.specs.Sourced.{program_in, paths_in, view_in, AreSources}
use Rattle.recheck_merging.specs.check_phases.specs.Whole.{sigs_by, AreMade}
use Rattle.recheck_merging.specs.check_phases.specs.declared.merging.Sources.{Sources}
use Rattle.recheck_merging.specs.check_phases.specs.declared.phases.Made.{Made}
use Rattle.recheck_merging.specs.Keeping.{ComeFrom, AreTouched}
use Rattle.recheck_merging.specs.Plans.{IsPlanOf}
use Rattle.recheck_merging.specs.declared.planning.MergePlan.{MergePlan}
use Rattle.recheck_sources.specs.Changed.{IsChanged}
use Rattle.recheck_sources.specs.Parts.{TellsOthers}
use Rattle.recheck_reach.specs.Moved.{IsSameOutside}
use Rattle.recheck_reach.specs.Checked.{IsToCheckIn}

-- Outside of the plan of what is touched, each module was one and has the signature that it had.
abbrev pub RestIsSame : Type 0
RestIsSame =
    (was : Made) (s : Sources) (from : List (Option ℕ)) (touched : List ℕ) (p : MergePlan) (sigs : List Sig) → AreMade was → AreSources s
    → ComeFrom was.sources s from → AreTouched was.sources s from touched → IsPlanOf s touched p → AreMerged (view_in s) (program_in s) sigs
    → IsSameOutside was.signatures.items from p.merged sigs

-- A merged signature names only modules to which the imports of its module lead.
abbrev pub NamedIsImported : Type 0
NamedIsImported = (v : View) (path other : Bytes) (s : Sig) → merged v path ≡ Some s → is_among (paths_named s) other ≡ true → Imports v path other

-- Merging sees the modules as any full check of their program has them,
abbrev pub SeenAsChecked : Type 0
SeenAsChecked = (s : Sources) (results : List Results) → AreSources s → IsFull (program_in s) results → full.view_in (program_in s) results ≡ view_in s

-- and gives them the signatures that stand there.
abbrev pub SignedAsChecked : Type 0
SignedAsChecked =
    (s : Sources) (sigs : List Sig) (results : List Results) → AreSources s → AreMerged (view_in s) (program_in s) sigs → IsFull (program_in s) results
    → full.sigs_in (program_in s) results ≡ sigs_by s sigs

-- What is to be checked by what changed and what moved are the paths that an edit may give other errors.
abbrev pub CheckedAreOfChecked : Type 0
CheckedAreOfChecked =
    (was : Made) (s : Sources) (sigs : List Sig) (from : List (Option ℕ)) (moved : List Bool) (changed all : List ℕ) (before after : List Results)
    → AreMade was → AreSources s → AreMerged (view_in s) (program_in s) sigs → IsFull (program_in was.sources) before → IsFull (program_in s) after
    → from ≡ numbers_from was.sources.root s.root → TellsOthers was.signatures.items from sigs moved → ArePlaces (IsChanged was.sources s) (paths_in s) changed
    → AreExactly (IsToCheckIn s sigs moved changed) all → ArePaths (Checked (program_in was.sources) (program_in s) before after) (paths_at (paths_in s) all)

-- Where nothing moved, it is what changed.
abbrev pub UnmovedAreChanged : Type 0
UnmovedAreChanged =
    (s : Sources) (sigs : List Sig) (moved : List Bool) (changed : List ℕ) → ((x : ℕ) → ¬ (IsOn moved x)) → reach.IsRising changed
    → AreExactly (IsToCheckIn s sigs moved changed) changed

-- The modules that are fresh are those that are parsed, and so many.
abbrev pub ParsedAreFresh : Type 0
ParsedAreFresh =
    (old new : Root) → IsRising (paths_of new)
    → (paths : List Bytes) × ArePaths (Parsed (program_of old) (program_of new)) paths × (length paths ≡ count_by (λ flag. flag) (fresh_from old new))

-- The modules come from those of their numbers, and where what merging sees differs they are touched.
abbrev pub DiffersAreTouched : Type 0
DiffersAreTouched =
    (was s : Sources) (from : List (Option ℕ)) (touched : List ℕ) → AreSources was → AreSources s → from ≡ numbers_from was.root s.root
    → ArePlaces (Differs (view_in was) (view_in s)) (paths_in s) touched → ComeFrom was s from × AreTouched was s from touched
