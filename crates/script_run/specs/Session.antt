-- What a server of modules and the edits that wait are to the walk.
use Rattle.std.specs.Prelude.{◌≡◌, ◌<◌, ◌⊎◌, ℕ, ◌+◌, ◌^◌, ◌≤◌, Bool, false, List, [], ◌∷◌, ◌++◌, length, replicate, slice_get, Option, Some, None, Result, Ok, Err, refl}
use Rattle.std.specs.Coded.{Coded, code_by, coded×, coded_ℕ, coded_bool, coded_list}
use Rattle.flow_base.specs.Causes.{RoseBy}
use Rattle.flow_base.specs.Program.{Bytes, Program}
use Rattle.flow_base.specs.Seen.{FolderSeen}
use Rattle.check_values.specs.Roots.{paths_of_rows}
use Rattle.check_values.specs.declared.faults.Fault.{Fault}
use Rattle.check_values.specs.declared.root.RootRow.{RootRow}
use Rattle.heap_core.specs.Meaning.{Meaning, AllFit, IsSound}
use Rattle.payloads.specs.Entities.{errors_entity}
use Rattle.payloads.specs.State.{program_of}
use Rattle.payloads.specs.contracts.payload.Payload as payload_type
use Rattle.payloads.specs.declared.payload.Payload.{Payload}
use Rattle.payloads.specs.declared.payload.Payload.TheVariants as payload
use Rattle.pending_edits.specs.Pending.{Pending}
use Rattle.pending_edits.specs.Counting.{counted, StandsOn}
use Rattle.pending_edits.specs.contracts.edit.Edit as edit_type
use Rattle.pending_edits.specs.declared.edit.Edit.{Edit}
use Rattle.pending_edits.specs.declared.edit.Edit.TheVariants.{Delete}
use Rattle.pending_edits.specs.declared.edit.EditFault.{EditFault}
use Rattle.pending_edits.specs.declared.edit.EditFault.TheVariants.{TooManyModules, NoMemory}
use Rattle.beside.specs.Recheck.{Commits, HasRoom, RecheckState, Rechecked}
use Rattle.beside.specs.Outcome.{Outcome}
use Rattle.beside.specs.Outcome.TheVariants as outcome
use Rattle.beside.specs.Uses.{LaneUse, lane_use_code, new_lane}
use Rattle.beside.specs.Server.{IsRunning, uses_of}
use Rattle.beside.specs.declared.serving.Server.{Server}
use Rattle.beside.specs.Writers.{meaning_in}
use Rattle.script_line.specs.declared.line.Line.{Line}
use Rattle.script_run.specs.Transcript.{Standing, with_edit, after_asks, modules_counted, RechecksBeside, Turns}
use Rattle.script_print.specs.Printed.{done_line, cancelled_line, fault_line, refused_line}
use Rattle.stops.specs.Asked.{StopSeen, yes_answers_by}
use Rattle.analyst.specs.Work.{Work}
use Rattle.asks.specs.declared.ask.Ask.{Ask}
use Rattle.asks.specs.declared.answer.AskFault.TheVariants as ask_fault
use Rattle.beside.specs.heap_answers.specs.States.{Answers}
use Rattle.beside.specs.Told.{Told}
use Rattle.beside.specs.answers_law.specs.Answers.{Answered, IsAnswer}
use Rattle.answer_print.specs.Lines.{answer_lines}

-- the modules of a root
abbrev pub modules_of : Payload → List RootRow
modules_of payload.Absent = []
modules_of (payload.Root root) = root.modules
modules_of (payload.Parse parse) = []
modules_of (payload.Deps deps) = []
modules_of (payload.Sig sig) = []
modules_of (payload.Errs errs) = []

-- the modules of the root of a state
abbrev pub modules_in : List Payload → List RootRow
modules_in [] = []
modules_in (root ∷ state) = modules_of root

-- the program of these modules
abbrev pub program_with : List RootRow → Program
program_with modules = program_of (record { modules = modules })

-- the program that the root of a state names
abbrev pub program_in : List Payload → Program
program_in state = program_with (modules_in state)

-- where the walk stands, by the heap, the edits that wait, and what the lanes have answered
abbrev pub standing_of : Meaning Payload → Pending → List LaneUse → Standing
standing_of m waiting lanes = record { program = program_in m.committed; version = m.version; waiting = waiting.edits; lanes = lanes }

-- what a session holds: what its heap means, the edits that wait, and what the lanes have answered
pub record Held : Type 0 where
  pub heap : Meaning Payload
  pub waiting : Pending
  pub lanes : List LaneUse

-- it is told apart from others by its parts
abbrev meaning_code : Coded (Meaning Payload)
meaning_code =
    code_by (ℕ × (Bool × (List Payload × (List Payload × (List ℕ × List Bool)))))
    (coded× coded_ℕ (coded× coded_bool (coded× (coded_list payload_type.the_row.coded) (coded× (coded_list payload_type.the_row.coded) (coded× (coded_list coded_ℕ) (coded_list coded_bool))))))
    (λ m. (m.version, (m.is_open, (m.committed, (m.latest, (m.versions, m.staged))))))
    (λ p. record { version = p.0; is_open = p.1.0; committed = p.1.1.0; latest = p.1.1.1.0; versions = p.1.1.1.1.0; staged = p.1.1.1.1.1 }) (λ _. refl)

abbrev waiting_code : Coded Pending
waiting_code =
    code_by (List (List ℕ × Edit) × (ℕ × (ℕ × List (List ℕ))))
    (coded× (coded_list (coded× (coded_list coded_ℕ) edit_type.the_row.coded)) (coded× coded_ℕ (coded× coded_ℕ (coded_list (coded_list coded_ℕ)))))
    (λ w. (w.edits, (w.capacity, (w.found, w.unseen)))) (λ p. record { edits = p.0; capacity = p.1.0; found = p.1.1.0; unseen = p.1.1.1 }) (λ _. refl)

abbrev pub held_code : Coded Held
held_code =
    code_by (Meaning Payload × (Pending × List LaneUse)) (coded× meaning_code (coded× waiting_code (coded_list lane_use_code))) (λ h. (h.heap, (h.waiting, h.lanes)))
    (λ p. record { heap = p.0; waiting = p.1.0; lanes = p.1.1 }) (λ _. refl)

abbrev pub held : Meaning Payload → Pending → List LaneUse → Held
held heap waiting lanes = record { heap = heap; waiting = waiting; lanes = lanes }

-- what a server and the edits that wait are
abbrev pub held_by : Server → Pending → Held
held_by server waiting = held (meaning_in server.writer) waiting (uses_of server.lanes)

-- where the walk of a session stands
abbrev pub standing_in : Held → Standing
standing_in h = standing_of h.heap h.waiting h.lanes

-- edits stand on the program that is committed
abbrev pub StandOnCommitted : Meaning Payload → Pending → Type 0
StandOnCommitted m waiting = StandsOn (paths_of_rows (modules_in m.committed)) waiting

-- no more modules are counted, while edits wait, than there may be
abbrev pub AreFew : Meaning Payload → Pending → Type 0
AreFew m waiting = counted (paths_of_rows (modules_in m.committed)) waiting.edits ≤ waiting.capacity

-- Whatever the program's paths are: no more modules are counted than before, and the edits stand on them where they stood before.
abbrev pub CountsNoMore : Pending → Pending → Type 0
CountsNoMore before now = (paths : List Bytes) → counted paths now.edits ≤ counted paths before.edits

abbrev pub StandsStill : Pending → Pending → Type 0
StandsStill before now = (paths : List Bytes) → StandsOn paths before → StandsOn paths now

-- no transaction is open, there is room for as many modules as there may be, no more are counted, and the edits stand on the program
pub record IsReady (h : Held) : Type 0 where
  pub closed : h.heap.is_open ≡ false
  pub room : HasRoom h.heap h.waiting.capacity
  pub few : AreFew h.heap h.waiting
  pub stands : StandOnCommitted h.heap h.waiting

-- a heap for this many modules at version 0, before any recheck: it has no module
pub record IsEmptyHeap (m : Meaning Payload) (modules : ℕ) : Type 0 where
  pub commits : Commits m (record { modules = [] })
  pub version : m.version ≡ 0
  pub closed : m.is_open ≡ false
  pub room : HasRoom m modules

-- a server for this many modules and with so many lanes, before any recheck: it has no module, and has answered nothing
pub record IsNewServer (server : Server) (modules lanes : ℕ) : Type 0 where
  pub running : IsRunning server
  pub empty : IsEmptyHeap (meaning_in server.writer) modules
  pub many : length server.lanes ≡ lanes
  pub uses : uses_of server.lanes ≡ replicate lanes new_lane

-- a server on which no transaction is open
pub record IsIdle (server : Server) : Type 0 where
  pub running : IsRunning server
  pub closed : (meaning_in server.writer).is_open ≡ false

-- what is committed has a root, and fits it
pub may_be_read : {P : Type 0} {fits : ℕ → P → ℕ → P → Type 0} {m : Meaning P} → IsSound fits m → (0 < length m.committed) × AllFit fits m.committed
may_be_read sound = (sound.some_entity, sound.fit)

-- ---- the errors that stand in a state

-- the faults of an entity
abbrev pub faults_of : Payload → List Fault
faults_of payload.Absent = []
faults_of (payload.Root root) = []
faults_of (payload.Parse parse) = []
faults_of (payload.Deps deps) = []
faults_of (payload.Sig sig) = []
faults_of (payload.Errs errs) = errs.faults

-- the faults of an entity, if there is one
abbrev pub faults_in : Option Payload → List Fault
faults_in None = []
faults_in (Some x) = faults_of x

-- the faults of the module of a row
abbrev pub faults_at : List Payload → ℕ → List Fault
faults_at state row = faults_in (slice_get state (errors_entity row))

-- the number of faults of all modules
abbrev pub count_in : List Payload → List RootRow → ℕ
count_in state [] = 0
count_in state (m ∷ ms) = length (faults_at state m.row) + count_in state ms

-- the errors of a module have a place in the state, and it has a number
pub record HasPlace (state : List Payload) (m : RootRow) : Type 0 where
  pub numbered : errors_entity m.row < 2 ^ 32
  pub within : errors_entity m.row < length state

-- ---- what the calls of a session do

abbrev pub recheck_state : FolderSeen → Pending → Meaning Payload → StopSeen → Work → RecheckState
recheck_state folder edits heap stop work = record { folder = folder; edits = edits; heap = heap; stop = stop; work = work }

-- who was not asked yet, and says yes at this question alone, and the same after some questions
pub record StopsAt (stop : ℕ) (before now : StopSeen) : Type 0 where
  pub told : before.told ≡ Some stop
  pub unasked : before.questions ≡ 0
  pub no_yes : before.yes_answers ≡ yes_answers_by stop 0
  pub yes : now.yes_answers ≡ yes_answers_by stop now.questions

-- A recheck that is to stop at this poll, or at none where that is 0, ended like this.
pub record HasEnded (stop : ℕ) (folder folder' : FolderSeen) (h h' : Held) (o : Outcome) : Type 0 where
  pub work : Work
  pub work' : Work
  pub asked : StopSeen
  pub asked' : StopSeen
  pub stops : StopsAt stop asked asked'
  pub rechecked : Rechecked (recheck_state folder h.waiting h.heap asked work) (recheck_state folder' h'.waiting h'.heap asked' work') o

-- a recheck that is to stop at this poll, or at none where that is 0, with these asks beside it, what it prints, and that the folder
-- counted as many faults in it as it prints read faults
pub record HasRechecked (stop : ℕ) (asks : List Ask) (s s' : Standing) (printed : Bytes) (before now : FolderSeen) : Type 0 where
  pub faults : ℕ
  pub rechecks : RechecksBeside before.told stop asks s s' faults printed
  pub counted : RoseBy faults before.faults now.faults

-- the same of a line of the script
pub record HasTurned (most : ℕ) (line : Line) (s s' : Standing) (printed : Bytes) (before now : FolderSeen) : Type 0 where
  pub faults : ℕ
  pub turns : Turns most before.told line s s' faults printed
  pub counted : RoseBy faults before.faults now.faults

-- an edit after which so many modules would be counted is refused for their number exactly where they are too many
abbrev pub Limits : {T : Type 0} → ℕ → ℕ → Result T EditFault → Type 0
Limits capacity modules (Ok _) = modules ≤ capacity
Limits capacity modules (Err (TooManyModules count)) = (capacity < modules) × (count ≡ modules)
Limits capacity modules (Err NoMemory) = Unit {0}

-- an edit joined the others, or was refused since more modules than these would be counted, and changed nothing; what this prints
abbrev pub HasEdited : ℕ → Bytes → Edit → Standing → Standing → Bytes → Type 0
HasEdited most path edit s s' printed =
    ((modules_counted (with_edit s path edit) ≤ most) × (s' ≡ with_edit s path edit) × (printed ≡ []))
    ⊎ ((most < modules_counted (with_edit s path edit)) × (s' ≡ s) × (printed ≡ refused_line (modules_counted (with_edit s path edit))))

-- an edit that is never refused joined the others, and prints nothing
abbrev pub HasDeleted : Bytes → Standing → Standing → Bytes → Type 0
HasDeleted path s s' printed = (s' ≡ with_edit s path Delete) × (printed ≡ [])

-- what a recheck prints, after which the version is this one; the number of a poll fits its type
abbrev pub Prints : Outcome → ℕ → Bytes → Type 0
Prints (outcome.Done version parsed checked errors) now line = line ≡ done_line version parsed checked errors
Prints (outcome.Cancelled poll) now line = (poll < 2 ^ 64) × (line ≡ cancelled_line poll now)
Prints (outcome.ReadFault path) now line = line ≡ fault_line path now
Prints outcome.NoMemory now line = ⊥

-- what is asked of a version of a program prints this
abbrev pub PrintsAnswer : ℕ → Program → Ask → Bytes → Type 0
PrintsAnswer version program asked printed = (answer : Answered) × IsAnswer program asked answer × (printed ≡ answer_lines version asked answer)

-- memory was not refused
abbrev pub IsFound : Answered → Type 0
IsFound answer = answer ≡ Err ask_fault.NoMemory → ⊥

-- what is told of an ask, of some program
abbrev pub IsToldOfSome : Ask → Told Answered → Type 0
IsToldOfSome asked told = (program : Program) × Answers program asked told.answer

-- what is told prints this
abbrev pub PrintsTold : Ask → Told Answered → Bytes → Type 0
PrintsTold asked told printed = IsFound told.answer × (printed ≡ answer_lines told.version asked told.answer)

-- what is told of some asks prints this, in order
abbrev pub PrintAllTold : List Ask → List (Told Answered) → Bytes → Type 0
PrintAllTold [] [] printed = printed ≡ []
PrintAllTold (asked ∷ asks) (told ∷ more) printed = (first rest : Bytes) × PrintsTold asked told first × PrintAllTold asks more rest × (printed ≡ first ++ rest)
PrintAllTold asks more printed = ⊥

-- an ask of where the walk stands was answered on the first lane, and prints this
abbrev pub HasAsked : Ask → Standing → Standing → Bytes → Type 0
HasAsked asked s s' printed = (s' ≡ after_asks s (s.version ∷ [])) × PrintsAnswer s.version s.program asked printed

-- what an edit prints
abbrev pub PrintsEdit : {T : Type 0} → Result T EditFault → Bytes → Type 0
PrintsEdit (Ok _) line = line ≡ []
PrintsEdit (Err (TooManyModules count)) line = line ≡ refused_line count
PrintsEdit (Err NoMemory) line = ⊥
