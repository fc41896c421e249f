-- What is answered, read off the full check of a program.
use Rattle.std.specs.Prelude.{◌≡◌, Bool, false, List, [], ◌∷◌, ◌++◌, Option, Some, None, Result, Ok, Err, if◌then◌else◌}
use Rattle.std.specs.List.{list_any}
use Rattle.std.specs.Str.{bytes_eq}
use Rattle.flow_base.specs.Program.{Bytes, Program, paths_of}
use Rattle.check_values.specs.Rows.{Rows, row_at}
use Rattle.check_values.specs.declared.signatures.DepRow.{DepRow}
use Rattle.type_values.specs.declared.types.FlowType.{FlowType}
use Rattle.module_resolution.specs.Resolution.{resolved}
use Rattle.full_law.specs.check_job.specs.Jobs.{source_in}
use Rattle.full_law.specs.program_check.specs.Full.{Results, view_in, sigs_in, AreResultsOf, IsFull}
use Rattle.shown_types.specs.Shown.{IsShown}
use Rattle.asks.specs.Places.{errors_at}
use Rattle.asks.specs.declared.answer.Located.{Located}
use Rattle.asks.specs.declared.answer.Answer.{Answer}
use Rattle.asks.specs.declared.answer.Answer.TheVariants.{Faults, Shown, Found, Paths, Sig}
use Rattle.asks.specs.declared.answer.AskFault.{AskFault}
use Rattle.asks.specs.declared.answer.AskFault.TheVariants.{UnknownPath, NoExpression}
use Rattle.asks.specs.declared.ask.Ask.{Ask}
use Rattle.asks.specs.declared.ask.Ask.TheVariants.{Status, Errors, CheckContents, TypeAtPos, FindModule, Ls, Importers, Signature}

abbrev pub Answered : Type 0
Answered = Result Answer AskFault

-- the errors of all modules, in order of their paths
abbrev pub all_errors : Program → List Results → List Located
all_errors (m ∷ program) (r ∷ results) = errors_at m.0 m.1 r.errors ++ all_errors program results
all_errors program results = []

-- the modules of a program, each with its text and what the check says of it
abbrev pub standing : Program → List Results → Rows (Bytes × Results)
standing (m ∷ program) (r ∷ results) = (m.0, (m.1, r)) ∷ standing program results
standing program results = []

-- a specifier finds the module at a path
abbrev pub is_found : Bytes → Option Bytes → Bool
is_found path None = false
is_found path (Some found) = bytes_eq found path

-- some specifier of a module does
abbrev pub imports : Bytes → Results → Bool
imports path r = list_any (λ (row : DepRow). is_found path row.found) r.deps.rows

-- the modules whose specifiers find a path, in order of their paths
abbrev pub importers : Bytes → Program → List Results → List Bytes
importers path (m ∷ program) (r ∷ results) = if imports path r then m.0 ∷ importers path program results else importers path program results
importers path program results = []

-- These are the results of the module at a path, were this its text and all else as it stands.
abbrev pub AreInstead : Program → List Results → Bytes → Bytes → Results → Type 0
AreInstead program results path text r = AreResultsOf (paths_of program) (view_in program results) (sigs_in program results) path text r

-- the type that is shown, or the fact that there is none
abbrev pub shown : Option FlowType → Answered
shown None = Err NoExpression
shown (Some t) = Ok (Shown t)

-- what is asked of a module is answered by its text and its results; a path that is no module's is unknown
abbrev pub OfModule : Option (Bytes × Results) → (Bytes → Results → Type 0) → Answered → Type 0
OfModule None is answer = answer ≡ Err UnknownPath
OfModule (Some there) is answer = is there.0 there.1

-- This is answered, where these are the results of the program's modules.
abbrev pub AnswersBy : Program → List Results → Ask → Answered → Type 0
AnswersBy program results Status answer = answer ≡ Ok (Faults (all_errors program results))
AnswersBy program results (Errors path) answer = OfModule (row_at (standing program results) path) (λ text r. answer ≡ Ok (Faults (errors_at path text r.errors))) answer
AnswersBy program results (CheckContents path text) answer =
    OfModule (row_at (standing program results) path) (λ _ _. (r : Results) × AreInstead program results path text r × (answer ≡ Ok (Faults (errors_at path text r.errors)))) answer
AnswersBy program results (TypeAtPos path line column) answer =
    OfModule (row_at (standing program results) path)
    (λ text r. (t : Option FlowType) × IsShown path r.deps (source_in r.parse.tree) (sigs_in program results) text line column t × (answer ≡ shown t)) answer
AnswersBy program results (FindModule path spec) answer = OfModule (row_at (standing program results) path) (λ _ _. answer ≡ Ok (Found (resolved (paths_of program) path spec))) answer
AnswersBy program results Ls answer = answer ≡ Ok (Paths (paths_of program))
AnswersBy program results (Importers path) answer = OfModule (row_at (standing program results) path) (λ _ _. answer ≡ Ok (Paths (importers path program results))) answer
AnswersBy program results (Signature path) answer = OfModule (row_at (standing program results) path) (λ _ r. answer ≡ Ok (Sig r.sig)) answer

-- This is the answer to what is asked of a program. There is one full check of it, as far as what it says of each module.
abbrev pub IsAnswer : Program → Ask → Answered → Type 0
IsAnswer program ask answer = ∥ ((results : List Results) × IsFull program results × AnswersBy program results ask answer) ∥₁
