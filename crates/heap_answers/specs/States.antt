-- What a state of the heap of modules holds, as answers read it.
use Rattle.std.specs.Prelude.{◌≡◌, ◌<◌, ◌^◌, ◌++◌, ℕ, Bool, true, false, List, [], ◌∷◌, length, map, slice_get, option_and_then, Option, Some, None, Ok, Err, if◌then◌else◌}
use Rattle.std.specs.List.{list_any, AllByRecursion}
use Rattle.std.specs.Option.{is_some}
use Rattle.check_values.specs.Rows.{row_at}
use Rattle.errors_by_reach.specs.Seen.{Sigs}
use Rattle.flow_base.specs.Program.{Bytes, Program}
use Rattle.check_values.specs.declared.faults.Fault.{Fault}
use Rattle.check_values.specs.declared.root.RootRow.{RootRow}
use Rattle.check_values.specs.declared.signatures.DepRow.{DepRow}
use Rattle.check_values.specs.declared.signatures.Sig.{Sig}
use Rattle.payloads.specs.Entities.{deps_entity, signature_entity, errors_entity}
use Rattle.payloads.specs.State.{program_of}
use Rattle.payloads.specs.declared.payload.Payload.{Payload}
use Rattle.payloads.specs.declared.payload.Payload.TheVariants as payload
use Rattle.asks.specs.Places.{errors_at}
use Rattle.asks.specs.declared.answer.Located.{Located}
use Rattle.asks.specs.declared.answer.AskFault.TheVariants.{UnknownPath, NoExpression, NoMemory}
use Rattle.asks.specs.declared.ask.Ask.{Ask}
use Rattle.answers_law.specs.Answers.{Answered, is_found, IsAnswer}

-- ---- what a payload holds

abbrev pub modules_of : Payload → List RootRow
modules_of (payload.Root root) = root.modules
modules_of other = []

abbrev pub is_root : Payload → Bool
is_root (payload.Root root) = true
is_root other = false

abbrev pub faults_of : Payload → List Fault
faults_of (payload.Errs errs) = errs.faults
faults_of other = []

abbrev pub specifiers_of : Payload → List DepRow
specifiers_of (payload.Deps deps) = deps.rows
specifiers_of other = []

abbrev pub signature_of : Payload → Option Sig
signature_of (payload.Sig sig) = Some sig
signature_of other = None

-- ---- the entities of a state

abbrev pub there : {X : Type 0} → (Payload → X) → X → List Payload → ℕ → X
there part nothing state e = elim (slice_get state e) [ Some x ↦ part x | None ↦ nothing ]

abbrev pub modules_in : List Payload → List RootRow
modules_in state = there modules_of [] state 0

-- the program that the root of a state names
abbrev pub program_in : List Payload → Program
program_in state = program_of (record { modules = modules_in state })

-- of the module of a row the faults, the specifiers, and the signature
abbrev pub faults_at : List Payload → ℕ → List Fault
faults_at state row = there faults_of [] state (errors_entity row)

abbrev pub specifiers_at : List Payload → ℕ → List DepRow
specifiers_at state row = there specifiers_of [] state (deps_entity row)

abbrev pub signature_at : List Payload → ℕ → Option Sig
signature_at state row = there signature_of None state (signature_entity row)

-- the entities of a module have places in the state, and numbers
pub record HasPlace (state : List Payload) (m : RootRow) : Type 0 where
  pub numbered : errors_entity m.row < 2 ^ 32
  pub within : errors_entity m.row < length state

-- ---- of many modules

abbrev pub errors_in : List Payload → List RootRow → List Located
errors_in state [] = []
errors_in state (m ∷ ms) = errors_at m.path m.text (faults_at state m.row) ++ errors_in state ms

-- some specifier finds a path
abbrev pub any_finds : Bytes → List DepRow → Bool
any_finds path rows = list_any (λ (row : DepRow). is_found path row.found) rows

abbrev pub importers_in : Bytes → List Payload → List RootRow → List Bytes
importers_in path state [] = []
importers_in path state (m ∷ ms) = if any_finds path (specifiers_at state m.row) then m.path ∷ importers_in path state ms else importers_in path state ms

-- ---- answers

-- memory was refused, or this is the answer to what is asked of the program
abbrev pub Answers : Program → Ask → Answered → Type 0
Answers program ask (Ok answer) = IsAnswer program ask (Ok answer)
Answers program ask (Err UnknownPath) = IsAnswer program ask (Err UnknownPath)
Answers program ask (Err NoExpression) = IsAnswer program ask (Err NoExpression)
Answers program ask (Err NoMemory) = Unit {0}

-- ---- merged signatures

-- the module of a path
abbrev pub module_at : List RootRow → Bytes → Option RootRow
module_at ms path = row_at (map (λ (m : RootRow). (m.path, m)) ms) path

-- what the module of a path says to others
abbrev pub sigs_by : List Payload → List RootRow → Sigs
sigs_by state ms path = option_and_then (λ (m : RootRow). signature_at state m.row) (module_at ms path)

-- each module says something
abbrev pub AreSigned : List Payload → List RootRow → Type 0
AreSigned state ms = AllByRecursion (λ (m : RootRow). is_some (signature_at state m.row) ≡ true) ms
