-- What is known at each stage of a recheck.
use Rattle.std.specs.Prelude.{◌≡◌, ◌⊎◌, ℕ, ◌^◌, ◌<◌, ◌≤◌, Bool, List, All, [], length, slice_get, Some}
use Rattle.flow_values.specs.Path as paths
use Rattle.check_values.specs.Roots.{paths_of}
use Rattle.check_values.specs.declared.faults.Errs.{Errs}
use Rattle.check_values.specs.declared.signatures.Sig.{Sig}
use Rattle.check_values.specs.declared.root.Root.{Root}
use Rattle.graph_search.specs.Cycles.{Has}
use Rattle.graph_search.specs.Reach.{IsRising}
use Rattle.committed_results.specs.program_check.specs.Full.{Results, IsFull}
use Rattle.recheck_checking.specs.affected_law.specs.Affected.{Differs, Checked}
use Rattle.recheck_reach.specs.affected_sizes.specs.Paths.{ArePaths}
use Rattle.recheck_reach.specs.affected_sizes.specs.Polls.{AreImports}
use Rattle.recheck_checking.specs.payloads.specs.State.{program_of, IsRoot}
use Rattle.recheck_checking.specs.payloads.specs.declared.payload.Payload.{Payload}
use Rattle.recheck_checking.specs.payloads.specs.declared.payload.Payload.TheVariants as payload
use Rattle.pending_edits.specs.Rows.{Follows}
use Rattle.recheck_reach.specs.path_numbers.specs.Sets.{paths_at, ArePlaces}
use Rattle.recheck_reach.specs.check_phases.specs.Phases.{AreParsed, AreMerged}
use Rattle.recheck_reach.specs.check_phases.specs.Sourced.{program_in, paths_in, view_in, AreSources}
use Rattle.recheck_reach.specs.check_phases.specs.Whole.{AreMade}
use Rattle.recheck_reach.specs.check_phases.specs.declared.merging.Sources.{Sources}
use Rattle.recheck_checking.specs.edited_root.specs.From.{numbers_from, fresh_from, freed_from}
use Rattle.recheck_reach.specs.recheck_merging.specs.Plans.{IsPlanOf}
use Rattle.recheck_reach.specs.recheck_merging.specs.Merging.{AreMergedTo}
use Rattle.recheck_reach.specs.recheck_merging.specs.Still.{AreOld}
use Rattle.recheck_plan.specs.Marks.{AreMarksOf}
use Rattle.committed_results.specs.recheck_staging.specs.Staging.{state_of, HasState}
use Rattle.recheck_reach.specs.recheck_sources.specs.Parts.{AreKeptBy, TellsOthers}
use Rattle.recheck_reach.specs.recheck_sources.specs.Changed.{IsChanged}
use Rattle.recheck_checking.specs.Checking.{TellsAll, IsCheckedBy, AreCheckedTo}
use Rattle.recheck_run.specs.declared.stages.Base.{Base}
use Rattle.recheck_run.specs.declared.stages.Merging.{Merging}
use Rattle.recheck_run.specs.declared.stages.Checking.{Checking}
use Rattle.recheck_run.specs.declared.stages.Stage.{Stage}
use Rattle.recheck_run.specs.declared.stages.Stage.TheVariants.{Fronts, Lists, Merges, Checks}

-- the root of the committed program
abbrev pub old_of : Base → Root
old_of b = b.was.sources.root

-- This is what a recheck works with.
pub record IsBase (b : Base) : Type 0 where
  pub made : AreMade b.was
  pub old_rising : paths.IsRising (paths_of (old_of b))
  pub new_rising : paths.IsRising (paths_of b.root)
  pub old_few : length (old_of b).modules < 2 ^ 30
  pub new_few : length b.root.modules < 2 ^ 30
  pub follows : Follows (old_of b) (program_of b.root) b.root
  pub from : b.from.items ≡ numbers_from (old_of b) b.root
  pub fresh : b.fresh.items ≡ fresh_from (old_of b) b.root
  pub freed : b.freed.items ≡ freed_from (old_of b) b.root

-- It is so in a heap with this committed state.
pub record IsBaseIn (committed : List Payload) (b : Base) : Type 0 where
  pub base : IsBase b
  pub held : HasState (state_of b.was) committed
  pub is : slice_get committed 0 ≡ Some (payload.Root (old_of b))
  pub old_root : IsRoot (length committed) (old_of b)
  pub new_root : IsRoot (length committed) b.root
  pub numbered : length committed < 2 ^ 32

-- what is known of the modules of the edited program by themselves, beside what was known of those that they were
pub record AreListed (b : Base) (s : Sources) (flags : List Bool) : Type 0 where
  pub root : s.root ≡ b.root
  pub sources : AreSources s
  pub parses : AreKeptBy b.was.sources.parses.items b.from.items b.fresh.items s.parses.items
  pub lists : TellsOthers b.was.sources.lists.items b.from.items s.lists.items flags

-- so many waves are merged
pub record IsMerging (b : Base) (m : Merging) : Type 0 where
  pub listed : AreListed b m.listed.sources m.listed.relisted.items
  pub touched : ArePlaces (Differs (view_in b.was.sources) (view_in m.listed.sources)) (paths_in m.listed.sources) m.listed.touched
  pub changed : IsRising m.listed.changed × ArePlaces (IsChanged b.was.sources m.listed.sources) (paths_in m.listed.sources) m.listed.changed
  pub marks : AreMarksOf (length m.listed.sources.root.modules) m.listed.touched m.touched.items
  pub plan : IsPlanOf m.listed.sources m.listed.touched m.plan
  pub edges : (m.listed.touched ≡ []) ⊎ AreImports (view_in m.listed.sources) (paths_in m.listed.sources) m.edges.items
  pub merged : AreMergedTo m.listed.sources m.plan m.wave m.slots.items
  pub same : AreOld b.was.signatures.items b.from.items m.slots.items m.same.items
  pub low : m.wave ≤ length m.plan.waves

-- these are the numbers of the modules that are checked
pub record AreAffected (b : Base) (s : Sources) (checked : List ℕ) : Type 0 where
  pub rising : IsRising checked
  pub within : All (λ x. x < length s.root.modules) checked
  pub paths : (before after : List Results) → IsFull (program_in b.was.sources) before → IsFull (program_in s) after
      → ArePaths (Checked (program_in b.was.sources) (program_in s) before after) (paths_at (paths_in s) checked)

-- the module of a number was one, of which the errors serve on
abbrev pub KeepsErrors : Base → Sources → List Sig → ℕ → Type 0
KeepsErrors b s sigs x = (o : ℕ) × (errs : Errs) × (slice_get b.from.items x ≡ Some (Some o)) × (slice_get b.was.errors.items o ≡ Some errs) × IsCheckedBy s sigs x errs

-- so many of the modules that are to be checked are checked
pub record IsChecking (b : Base) (c : Checking) : Type 0 where
  pub listed : AreListed b c.sources c.relisted.items
  pub merged : AreMerged (view_in c.sources) (program_in c.sources) c.signatures.items
  pub moved : TellsOthers b.was.signatures.items b.from.items c.signatures.items c.moved.items
  pub to_check : AreAffected b c.sources c.checked
  pub told : TellsAll c.sources c.signatures.items c.checked c.table.rows
  pub kept : (x : ℕ) → x < length c.sources.root.modules → ¬ (Has c.checked x) → KeepsErrors b c.sources c.signatures.items x
  pub errors : AreCheckedTo c.sources c.signatures.items c.checked c.done c.errors.items
  pub low : c.done ≤ length c.checked

-- what a stage knows
abbrev pub Holds : Base → Stage → Type 0
Holds b Fronts = Unit {0}
Holds b (Lists parses) = AreParsed (program_of b.root) parses.items × AreKeptBy b.was.sources.parses.items b.from.items b.fresh.items parses.items
Holds b (Merges m) = IsMerging b m
Holds b (Checks c) = IsChecking b c
