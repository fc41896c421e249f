-- Where a recheck stands at its polls, by how much its edit affects.
use Rattle.std.specs.Prelude.{◌≡◌, ℕ, ◌+◌, ◌*◌, ◌≤◌, min, true, Bool, List, length, take, sum_by, slice_get, Some, Result, Ok, Err}
use Rattle.check_values.specs.declared.faults.Errs.{Errs}
use Rattle.flow_base.specs.Program.{Bytes}
use Rattle.heap_core.specs.Meaning.{Meaning, AllFit}
use Rattle.heap_core.specs.Transactions.{all_staged}
use Rattle.committed_results.specs.program_check.specs.Full.{Results, IsFull}
use Rattle.recheck_checking.specs.affected_law.specs.Affected.{Checked}
use Rattle.recheck_reach.specs.analyst.specs.Work.{Work, work_of, no_work, IsWithin, IsCounted}
use Rattle.recheck_checking.specs.payloads.specs.State.{program_of, fits}
use Rattle.recheck_checking.specs.payloads.specs.declared.payload.Payload.{Payload}
use Rattle.recheck_reach.specs.check_phases.specs.Sourced.{program_in, paths_in}
use Rattle.recheck_reach.specs.check_phases.specs.Whole.{AreMade}
use Rattle.recheck_reach.specs.check_phases.specs.declared.merging.Sources.{Sources}
use Rattle.recheck_reach.specs.check_phases.specs.declared.phases.Made.{Made}
use Rattle.recheck_reach.specs.recheck_merging.specs.Plans.{members_of}
use Rattle.recheck_reach.specs.recheck_merging.specs.declared.planning.MergePlan.{MergePlan}
use Rattle.committed_results.specs.recheck_staging.specs.Staging.{changes_of, state_of, HasState}
use Rattle.committed_results.specs.recheck_staging.specs.declared.staging.Anew.{Anew}
use Rattle.recheck_reach.specs.recheck_sources.specs.Parts.{AreKeptBy, TellsOthers}
use Rattle.recheck_run.specs.Extent.{Extent, Affects, polls}
use Rattle.recheck_run.specs.Recheck.{HasWorked, whole_work}
use Rattle.recheck_run.specs.Stages.{old_of, Holds}
use Rattle.recheck_run.specs.declared.stages.Base.{Base}
use Rattle.recheck_run.specs.declared.stages.Stage.{Stage}
use Rattle.recheck_run.specs.declared.stages.Stage.TheVariants.{Fronts, Lists, Merges, Checks}
use Rattle.recheck_run.specs.declared.stages.Next.{Next}
use Rattle.recheck_run.specs.declared.stages.Next.TheVariants.{GoesTo, Ready}

-- the edit affects so much
abbrev pub AffectsIn : Base → Extent → Type 0
AffectsIn b n = Affects (program_of (old_of b)) (program_of b.root) n

-- how many modules the waves before one have
abbrev pub merged_to : MergePlan → ℕ → ℕ
merged_to p wave = sum_by (members_of p) (take wave p.waves)

-- after so many batches so many of a number are checked
abbrev pub IsAfter : ℕ → ℕ → ℕ → Type 0
IsAfter count batches checked = checked ≡ min count (64 * batches)

-- this stage comes behind the poll before this one
abbrev pub IsAt : Extent → Stage → ℕ → Type 0
IsAt n Fronts poll = poll ≡ 1
IsAt n (Lists parses) poll = poll ≡ 2
IsAt n (Merges m) poll = (n.merged ≡ length m.plan.merged) × (n.waves ≡ length m.plan.waves) × (poll ≡ 3 + m.wave)
IsAt n (Checks c) poll = (n.checked ≡ length c.checked) × (k : ℕ) × (k ≤ n.batches) × (poll ≡ 3 + n.waves + k) × IsAfter n.checked k c.done

-- the work before a stage, with the most that may be merged by then
abbrev pub so_far : Extent → Stage → Work
so_far n Fronts = no_work
so_far n (Lists parses) = work_of n.parsed 0 0
so_far n (Merges m) = work_of n.parsed (merged_to m.plan m.wave) 0
so_far n (Checks c) = work_of n.parsed n.merged c.done

-- the recheck is at this stage before a poll, with so much work done since it began
abbrev pub Reaches : Extent → Stage → ℕ → Work → Work → Type 0
Reaches n stage poll before now = IsAt n stage poll × HasWorked before now (so_far n stage)

-- no check stands before the fourth poll
abbrev pub IsPast : Stage → ℕ → Type 0
IsPast Fronts poll = Unit {0}
IsPast (Lists parses) poll = Unit {0}
IsPast (Merges m) poll = Unit {0}
IsPast (Checks c) poll = 4 ≤ poll

-- it stands before a poll with what was done, where all may be staged
abbrev pub Stands : Extent → Next → ℕ → Work → Work → Type 0
Stands n (GoesTo stage) poll before now = Reaches n stage poll before now × IsPast stage poll
Stands n (Ready staged) poll before now = (poll ≡ polls n) × HasWorked before now (whole_work n) × (staged.parsed ≡ n.parsed) × (staged.checked ≡ n.checked)

-- Whatever poll the recheck is before, and whatever work was done since it began: of the edit that affects so much this is so.
abbrev pub OfEach : Base → Stage → Work → (Extent → ℕ → Work → Type 0) → Type 0
OfEach b old mid Holds = (n : Extent) (poll : ℕ) (before : Work) → AffectsIn b n → IsCounted before → Reaches n old poll before mid → Holds n poll before

-- a stage leads to the next one behind the poll, or fails with no more work than the whole
abbrev pub StepsOn : {E : Type 0} → Base → Stage → Result Stage E → Work → Work → Type 0
StepsOn b old (Ok new) mid now = OfEach b old mid (λ n poll before. Stands n (GoesTo new) (poll + 1) before now)
StepsOn b old (Err e) mid now = OfEach b old mid (λ n poll before. IsWithin before now (whole_work n))

-- the same, where all may be staged
abbrev pub LeadsOn : {E : Type 0} → Base → Stage → Result Next E → Work → Work → Type 0
LeadsOn b old (Ok new) mid now = OfEach b old mid (λ n poll before. Stands n new (poll + 1) before now)
LeadsOn b old (Err e) mid now = OfEach b old mid (λ n poll before. IsWithin before now (whole_work n))

-- a stage is another one, before the same poll
abbrev pub IsAlso : Base → Stage → Stage → Type 0
IsAlso b old new = (mid : Work) → OfEach b old mid (λ n poll before. Reaches n new poll before mid)

-- a flag is on only where the module is checked
pub record TellsChecked (b : Base) (s : Sources) (flags : List Bool) : Type 0 where
  pub many : length flags ≡ length s.root.modules
  pub each : (before after : List Results) → IsFull (program_in b.was.sources) before → IsFull (program_in s) after
      → (x : ℕ) (path : Bytes) → slice_get (paths_in s) x ≡ Some path → slice_get flags x ≡ Some true → Checked (program_in b.was.sources) (program_in s) before after path

-- All results are made, and the flags tell which of them anew.
pub record AreAnew (b : Base) (made : Made) (anew : Anew) : Type 0 where
  pub are : AreMade made
  pub root : made.sources.root ≡ b.root
  pub fresh : anew.fresh.items ≡ b.fresh.items
  pub parses : AreKeptBy b.was.sources.parses.items b.from.items anew.fresh.items made.sources.parses.items
  pub lists : TellsOthers b.was.sources.lists.items b.from.items made.sources.lists.items anew.relisted.items
  pub moved : TellsOthers b.was.signatures.items b.from.items made.signatures.items anew.moved.items
  pub errors : AreKeptBy b.was.errors.items b.from.items anew.checked.items made.errors.items
  pub checked : TellsChecked b made.sources anew.checked.items

-- They are staged.
pub record IsReady (b : Base) (m m' : Meaning Payload) (errors : ℕ) : Type 0 where
  pub made : Made
  pub anew : Anew
  pub are : AreAnew b made anew
  pub staged : m' ≡ all_staged (changes_of made anew b.freed.items) m
  pub state : HasState (state_of made) m'.latest
  pub fit : AllFit fits m'.latest
  pub count : errors ≡ sum_by (λ (e : Errs). length e.faults) made.errors.items

-- what is known before a poll, where the heap was this one before the first stage
abbrev pub HoldsNext : Base → Meaning Payload → Meaning Payload → Next → Type 0
HoldsNext b m m' (GoesTo stage) = Holds b stage × (m' ≡ m)
HoldsNext b m m' (Ready staged) = IsReady b m m' staged.errors
