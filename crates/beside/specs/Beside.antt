-- What a recheck with asks beside it needs and leaves.
use Rattle.std.specs.Prelude.{◌≡◌, ◌⊎◌, ℕ, ◌+◌, ◌^◌, ◌<◌, ◌≤◌, List, length, slice_get, Some, false}
use Rattle.flow_base.specs.Seen.{FolderSeen}
use Rattle.check_values.specs.declared.root.Root.{Root}
use Rattle.check_values.specs.Roots.{paths_of}
use Rattle.heap_core.specs.declared.traits.Program.{Ghosts}
use Rattle.request_core.specs.payloads.specs.declared.payload.Payload.{Payload}
use Rattle.pending_edits.specs.Pending.{Pending}
use Rattle.pending_edits.specs.Counting.{counted}
use Rattle.asks.specs.declared.ask.Ask.{Ask}
use Rattle.request_core.specs.answers_law.specs.Answers.{Answered}
use Rattle.request_core.specs.heap_answers.specs.States.{program_in, Answers}
use Rattle.request_core.specs.Works.{WorksFor}
use Rattle.lane_asks.specs.Dealing.{AreRows, AreFull}
use Rattle.lane_asks.specs.Telling.{AllHaveTold, IsToldFrom}
use Rattle.lane_asks.specs.declared.dealing.Row.{Row}
use Rattle.lane_asks.specs.declared.told.Told.{Told}
use Rattle.std.specs.List.{AllZip}
use Rattle.stops.specs.Asked.{StopSeen}
use Rattle.request_core.specs.analyst.specs.Work.{Work}
use Rattle.recheck_run.specs.Recheck.{RecheckState, HasRoom, Commits, Rechecked, CountsReads, Tells}
use Rattle.recheck_run.specs.declared.outcome.Outcome as declared
use Rattle.entity_heap.specs.declared.heap.Heap.{Heap}
use Rattle.entity_heap.specs.declared.heap.Lane.{Lane}
use Rattle.entity_heap.specs.declared.heap.Writer.{Writer}
use Rattle.entity_heap.specs.Lanes.{visit_in, AreLanesOf}
use Rattle.entity_heap.specs.Writers.{IsWriterOf, plan_in, meaning_in}

module _ {G : Ghosts Payload} where
  -- the writer of a heap, and all its lanes in their order
  pub record IsServer (h : Heap Payload) (w : Writer Payload G) (ls : List (Lane Payload G)) : Type 0 where
    pub writer : IsWriterOf h w
    pub lanes : AreLanesOf h ls
    pub made : (plan_in w).made ≡ length ls
    pub some : 0 < length ls
    pub few : length ls ≤ 16

  -- each lane may pin so many times more
  abbrev pub MayPin : ℕ → List (Lane Payload G) → Type 0
  MayPin asks lanes = (k : ℕ) (l : Lane Payload G) → slice_get lanes k ≡ Some l → (visit_in l).pins + asks < 2 ^ 27

  -- what a recheck by this writer works on
  abbrev pub state_of : FolderSeen → Pending → Writer Payload G → StopSeen → Work → RecheckState
  state_of folder edits w stop work = record { folder = folder; edits = edits; heap = meaning_in w; stop = stop; work = work }

  -- a writer may begin a recheck
  pub record MayRecheck (w : Writer Payload G) (edits : Pending) : Type 0 where
    pub closed : (meaning_in w).is_open ≡ false
    pub version : (meaning_in w).version + 1 < 2 ^ 31
    pub room : HasRoom (meaning_in w) edits.capacity
    pub fit : (old : Root) → Commits (meaning_in w) old → counted (paths_of old) edits.edits ≤ edits.capacity

  -- a recheck by this writer, which is then of the same heap, and ended like this
  pub record HasRechecked (h : Heap Payload) (w v : Writer Payload G) (before now : RecheckState) (outcome : declared.Outcome) : Type 0 where
    pub result : Rechecked before now outcome
    pub closed : (meaning_in v).is_open ≡ false
    pub room : HasRoom (meaning_in v) now.edits.capacity
    pub capacity : now.edits.capacity ≡ before.edits.capacity
    pub told : now.folder.told ≡ before.folder.told
    pub told_stop : now.stop.told ≡ before.stop.told
    pub later : before.folder.faults ≤ now.folder.faults
    pub reads : CountsReads before.folder now.folder outcome
    pub states : Tells (Some (plan_in w).history) (Some (plan_in v).history) (meaning_in v) outcome
    pub writer : IsWriterOf h v
    pub made : (plan_in v).made ≡ (plan_in w).made

  -- nothing was done, or a recheck that ended in some way
  abbrev pub MayHaveRechecked : Heap Payload → Writer Payload G → Writer Payload G → RecheckState → RecheckState → Type 0
  MayHaveRechecked h w v before now = (now ≡ before) ⊎ ((outcome : declared.Outcome) × HasRechecked h w v before now outcome)

-- what is answered from a state of the heap
abbrev pub AnswersFrom : List Payload → Ask → Answered → Type 0
AnswersFrom state ask answer = Answers (program_in state) ask answer

-- the work of an answer, for who counts like this
abbrev pub WorksAs : {A : Type 0} → (A → Work) → Ask → Answered → A → A → Type 0
WorksAs work ask answer before now = WorksFor ask answer (work before) (work now)

module _ {G : Ghosts Payload} where
  -- These rows are full, and what they have, in order, are the answers to some asks.
  pub record RowsTell {A : Type 0} (work : A → Work) (states : List (List Payload)) (since until : ℕ) (old new : List (Lane Payload G)) (before now : List A) (asks : List Ask) (rows : List (Row (Told Answered))) : Type 0 where
    pub full : AreFull asks rows
    pub told : (all : List (Told Answered)) → AreRows all rows → length all ≡ length asks → AllZip (IsToldFrom AnswersFrom states since until) asks all
    pub lanes : (all : List (Told Answered)) → AreRows all rows → AllHaveTold (WorksAs work) until old new before now asks all
