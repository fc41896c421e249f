-- What a recheck leaves.
use Rattle.std.specs.Prelude.{◌≡◌, ℕ, ◌+◌, ◌*◌, ◌-◌, ◌^◌, ◌<◌, ◌≤◌, min, nat_le, List, [], length, slice_get, Option, Some, false, if◌then◌else◌}
use Rattle.flow_base.specs.Program.{Bytes}
use Rattle.flow_base.specs.Causes.{raised, RoseBy}
use Rattle.flow_base.specs.Outside.{WhereTold}
use Rattle.flow_base.specs.Seen.{FolderSeen}
use Rattle.flow_base.specs.declared.outside.LastFault.TheVariants.{Reading}
use Rattle.heap_core.specs.Meaning.{Meaning, Appends}
use Rattle.check_values.specs.declared.root.Root.{Root}
use Rattle.stops.specs.Asked.{StopSeen}
use Rattle.committed_results.specs.program_check.specs.Full.{Results, IsFull}
use Rattle.committed_results.specs.program_check.specs.Status.{error_count}
use Rattle.recheck_checking.specs.affected_law.specs.Affected.{results_at, Parsed, Merged, Checked}
use Rattle.recheck_reach.specs.analyst.specs.Work.{Work, work_of, risen, RisesWithin, IsWithin}
use Rattle.recheck_checking.specs.payloads.specs.Entities.{parse_entity, deps_entity, signature_entity, errors_entity}
use Rattle.recheck_checking.specs.payloads.specs.State.{program_of}
use Rattle.recheck_checking.specs.payloads.specs.declared.payload.Payload.{Payload}
use Rattle.recheck_checking.specs.payloads.specs.declared.payload.Payload.TheVariants as payload
use Rattle.pending_edits.specs.Pending.{Pending, MayBecome, IsTouched}
use Rattle.pending_edits.specs.Counting.{StandsOn}
use Rattle.pending_edits.specs.Rows.{Follows, row_of}
use Rattle.recheck_run.specs.Extent.{Extent, Affects, polls}
use Rattle.recheck_run.specs.declared.outcome.Outcome as declared
use Rattle.recheck_run.specs.declared.outcome.Outcome.TheVariants as outcome

-- this root is committed; what else is committed fits it, as in each heap
abbrev pub Commits : Meaning Payload → Root → Type 0
Commits m root = slice_get m.committed 0 ≡ Some (payload.Root root)

-- the heap is one for this many modules: a root, and four entities for each
pub record HasRoom (m : Meaning Payload) (modules : ℕ) : Type 0 where
  pub entities : length m.committed ≡ 4 * modules + 1
  pub numbered : 4 * modules + 1 < 2 ^ 32

-- what a recheck works on, before or after it
pub record RecheckState : Type 0 where
  pub folder : FolderSeen
  pub edits : Pending
  pub heap : Meaning Payload
  pub stop : StopSeen
  pub work : Work

-- an edit of the committed program that the waiting edits may come to, and how much it affects
pub record Edits (before : RecheckState) (old new : Root) (n : Extent) : Type 0 where
  pub was : Commits before.heap old
  pub edited : MayBecome before.folder.told (program_of old) before.edits.edits (program_of new)
  pub affects : Affects (program_of old) (program_of new) n

-- the work up to a poll: all sources are read before the second one; no signature is merged before the fourth; and of the checks so many
-- batches are done as polls stand behind the waves
pub record WorkedTo (n : Extent) (poll : ℕ) (before now : Work) : Type 0 where
  pub fronts : now.fronts ≡ risen before.fronts (if nat_le poll 1 then 0 else n.parsed)
  pub merges : RisesWithin before.merges now.merges (if nat_le poll 3 then 0 else n.merged)
  pub checks : now.checks ≡ risen before.checks (min n.checked (64 * (poll - (3 + n.waves))))

-- exactly so many sources were read and so many modules checked, and at most so many were merged
pub record HasWorked (before now more : Work) : Type 0 where
  pub fronts : now.fronts ≡ risen before.fronts more.fronts
  pub merges : RisesWithin before.merges now.merges more.merges
  pub checks : now.checks ≡ risen before.checks more.checks

-- no work is done beyond this
abbrev pub whole_work : Extent → Work
whole_work n = work_of n.parsed n.merged n.checked

-- ---- the versions of the entities

-- the entity keeps its version
abbrev pub KeepsVersion : Meaning Payload → Meaning Payload → ℕ → Type 0
KeepsVersion m m' e = slice_get m'.versions e ≡ slice_get m.versions e

-- A module of both programs keeps its row, and the version of each of its results that the edit doesn't affect.
pub record KeepsVersions (old new : Root) (before after : List Results) (m m' : Meaning Payload) (path : Bytes) (row : ℕ) : Type 0 where
  pub parse : ¬ (Parsed (program_of old) (program_of new) path) → KeepsVersion m m' (parse_entity row)
  pub deps : (r s : Results) → results_at (program_of old) before path ≡ Some r → results_at (program_of new) after path ≡ Some s → s.deps ≡ r.deps → KeepsVersion m m' (deps_entity row)
  pub signature : ¬ (Merged (program_of old) (program_of new) before after path) → KeepsVersion m m' (signature_entity row)
  pub errors : ¬ (Checked (program_of old) (program_of new) before after path) → KeepsVersion m m' (errors_entity row)

-- ---- the outcomes

-- A recheck that is done: the edited program is committed, each module in its row, with its full check.
pub record IsDone (before now : RecheckState) (version parsed checked errors : ℕ) : Type 0 where
  pub old : Root
  pub new : Root
  pub extent : Extent
  pub edits : Edits before old new extent
  pub is : Commits now.heap new
  pub follows : Follows old (program_of new) new
  pub few : length new.modules ≤ before.edits.capacity
  pub results : List Results
  pub full : IsFull (program_of new) results
  pub counts : (parsed ≡ extent.parsed) × (checked ≡ extent.checked) × (errors ≡ error_count results)
  pub work : HasWorked before.work now.work (whole_work extent)
  pub questions : RoseBy (polls extent) before.stop.questions now.stop.questions
  pub no_yes : now.stop.yes_answers ≡ before.stop.yes_answers
  pub next : (now.heap.version ≡ before.heap.version + 1) × (version ≡ now.heap.version)
  pub rest : now.edits.edits ≡ []
  pub stands : (paths : List Bytes) → StandsOn paths now.edits
  pub closed : now.heap.is_open ≡ false
  pub size : length now.heap.committed ≡ length before.heap.committed
  pub versions : (path : Bytes) (row : ℕ) → row_of old.modules path ≡ Some row → row_of new.modules path ≡ Some row → KeepsVersions old new edits.affects.before edits.affects.after before.heap now.heap path row

-- neither the heap nor the edits changed
abbrev pub IsAsBefore : RecheckState → RecheckState → Type 0
IsAsBefore before now = (now.heap ≡ before.heap) × (now.edits ≡ before.edits)

-- nobody was asked
abbrev pub IsUnasked : RecheckState → RecheckState → Type 0
IsUnasked before now = (now.stop.questions ≡ before.stop.questions) × (now.stop.yes_answers ≡ before.stop.yes_answers)

-- One that was cancelled at a poll, where the answer was yes, at no earlier one.
pub record IsCancelled (before now : RecheckState) (poll : ℕ) : Type 0 where
  pub old : Root
  pub new : Root
  pub extent : Extent
  pub edits : Edits before old new extent
  pub same : IsAsBefore before now
  pub some : 1 ≤ poll
  pub few : poll ≤ polls extent
  pub work : WorkedTo extent poll before.work now.work
  pub questions : RoseBy poll before.stop.questions now.stop.questions
  pub yes : now.stop.yes_answers ≡ raised before.stop.yes_answers
  -- the last question is the one at which it says yes, where it tells it
  pub at : WhereTold before.stop.told (λ question. now.stop.questions ≡ question)

-- One to which memory was refused: no more work was done than that of an edit, fewer questions were asked than polls, and none was
-- answered yes.
pub record IsRefused (before now : RecheckState) : Type 0 where
  pub old : Root
  pub new : Root
  pub extent : Extent
  pub edits : Edits before old new extent
  pub same : IsAsBefore before now
  pub work : IsWithin before.work now.work (whole_work extent)
  pub asked : ℕ
  pub fewer : asked < polls extent
  pub questions : RoseBy asked before.stop.questions now.stop.questions
  pub no_yes : now.stop.yes_answers ≡ before.stop.yes_answers

-- what a recheck that ended like this has done
abbrev pub Rechecked : RecheckState → RecheckState → declared.Outcome → Type 0
Rechecked before now (outcome.Done version parsed checked errors) = IsDone before now version parsed checked errors
Rechecked before now (outcome.Cancelled poll) = IsCancelled before now poll
Rechecked before now (outcome.ReadFault path) = IsAsBefore before now × IsUnasked before now × IsTouched before.edits.edits path × (now.work ≡ before.work)
Rechecked before now outcome.NoMemory = IsRefused before now

-- The faults that the folder counted in a recheck: one, the reading of the path, where this could not be read; none where it is done or
-- was cancelled.
abbrev pub CountsReads : FolderSeen → FolderSeen → declared.Outcome → Type 0
CountsReads before now (outcome.Done version parsed checked errors) = now.faults ≡ before.faults
CountsReads before now (outcome.Cancelled poll) = now.faults ≡ before.faults
CountsReads before now (outcome.ReadFault path) = (now.faults ≡ raised before.faults) × (now.last_fault ≡ Reading path)
CountsReads before now outcome.NoMemory = before.faults ≤ now.faults

-- where the writer tells its states, a recheck that is done adds one
abbrev pub Tells : Option (List (List Payload)) → Option (List (List Payload)) → Meaning Payload → declared.Outcome → Type 0
Tells before after m' (outcome.Done version parsed checked errors) = Appends before m'.committed after
Tells before after m' result = after ≡ before
