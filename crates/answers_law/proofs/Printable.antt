-- An answer is of a kind that can be printed.
use Rattle.std.proofs.Common.{◌≡◌, ℕ, List, Option, Some, None, sym, subst}
use Rattle.std.specs.Prelude.{Ok, Err}
use Rattle.type_values.specs.declared.types.FlowType.{FlowType}
use Rattle.flow_base.specs.Program.{Bytes, Program}
use Rattle.check_values.specs.Rows.{row_at}
use Rattle.full_law.specs.program_check.specs.Full.{Results}
use mathlib.Core.Logic.{∥∥₁_elim}
use Rattle.asks.specs.Kinds.{asked_path, IsOfKind, IsUnknown, IsRefusal, CanAnswer}
use Rattle.asks.specs.declared.answer.Answer.{Answer}
use Rattle.asks.specs.declared.answer.Answer.TheVariants.{Faults, Shown, Found, Paths, Sig}
use Rattle.asks.specs.declared.answer.AskFault.{AskFault}
use Rattle.asks.specs.declared.answer.AskFault.TheVariants.{UnknownPath, NoExpression, NoMemory}
use Rattle.asks.specs.declared.ask.Ask.{Ask}
use Rattle.asks.specs.declared.ask.Ask.TheVariants.{Status, Errors, CheckContents, TypeAtPos, FindModule, Ls, Importers, Signature}
use Rattle.answers_law.specs.Answers.{Answered, standing, shown, OfModule, AnswersBy}
use Rattle.answers_law.specs.Law.{CanBePrinted}

can : (ask : Ask) (a b : Answered) → a ≡ b → CanAnswer ask b → CanAnswer ask a
can ask a b is can_answer = subst (CanAnswer ask) (sym is) can_answer

of_module : (ask : Ask) (there : Option (Bytes × Results)) (is : Bytes → Results → Type 0) (answer : Answered) → CanAnswer ask (Err UnknownPath) → ((text : Bytes) (r : Results) → is text r → CanAnswer ask answer)
    → OfModule there is answer → CanAnswer ask answer
of_module ask None is answer unknown known has = can ask answer (Err UnknownPath) has unknown
of_module ask (Some m) is answer unknown known has = known m.0 m.1 has

can_show : (path : Bytes) (line column : ℕ) (t : Option FlowType) → CanAnswer (TypeAtPos path line column) (shown t)
can_show path line column None = tt
can_show path line column (Some t) = tt

can_by : (program : Program) (results : List Results) (ask : Ask) (answer : Answered) → AnswersBy program results ask answer → CanAnswer ask answer
can_by program results Status answer is = can Status answer _ is tt
can_by program results (Errors path) answer is = of_module (Errors path) (row_at (standing program results) path) _ answer tt (λ text r has. can (Errors path) answer _ has tt) is
can_by program results (CheckContents path text) answer is =
    of_module (CheckContents path text) (row_at (standing program results) path) _ answer tt (λ old r has. can (CheckContents path text) answer _ has.2 tt) is
can_by program results (TypeAtPos path line column) answer is =
    of_module (TypeAtPos path line column) (row_at (standing program results) path) _ answer tt (λ text r has. can (TypeAtPos path line column) answer _ has.2 (can_show path line column has.0)) is
can_by program results (FindModule path spec) answer is = of_module (FindModule path spec) (row_at (standing program results) path) _ answer tt (λ text r has. can (FindModule path spec) answer _ has tt) is
can_by program results Ls answer is = can Ls answer _ is tt
can_by program results (Importers path) answer is = of_module (Importers path) (row_at (standing program results) path) _ answer tt (λ text r has. can (Importers path) answer _ has tt) is
can_by program results (Signature path) answer is = of_module (Signature path) (row_at (standing program results) path) _ answer tt (λ text r has. can (Signature path) answer _ has tt) is

-- ---- an answer is of such a kind in one way at most

unknown_once : (path : Option Bytes) → IsProp (IsUnknown path)
unknown_once None = hlevel
unknown_once (Some path) = hlevel

refusal_once : (ask : Ask) (fault : AskFault) → IsProp (IsRefusal ask fault)
refusal_once ask UnknownPath = unknown_once (asked_path ask)
refusal_once (TypeAtPos path line column) NoExpression = hlevel
refusal_once Status NoExpression = hlevel
refusal_once Status NoMemory = hlevel
refusal_once (Errors path) NoExpression = hlevel
refusal_once (Errors path) NoMemory = hlevel
refusal_once (CheckContents path text) NoExpression = hlevel
refusal_once (CheckContents path text) NoMemory = hlevel
refusal_once (TypeAtPos path line column) NoMemory = hlevel
refusal_once (FindModule path spec) NoExpression = hlevel
refusal_once (FindModule path spec) NoMemory = hlevel
refusal_once Ls NoExpression = hlevel
refusal_once Ls NoMemory = hlevel
refusal_once (Importers path) NoExpression = hlevel
refusal_once (Importers path) NoMemory = hlevel
refusal_once (Signature path) NoExpression = hlevel
refusal_once (Signature path) NoMemory = hlevel

kind_once : (ask : Ask) (answer : Answer) → IsProp (IsOfKind ask answer)
kind_once Status (Faults errors) = hlevel
kind_once Status (Shown t) = hlevel
kind_once Status (Found found) = hlevel
kind_once Status (Paths paths) = hlevel
kind_once Status (Sig sig) = hlevel
kind_once (Errors path) (Faults errors) = hlevel
kind_once (Errors path) (Shown t) = hlevel
kind_once (Errors path) (Found found) = hlevel
kind_once (Errors path) (Paths paths) = hlevel
kind_once (Errors path) (Sig sig) = hlevel
kind_once (CheckContents path text) (Faults errors) = hlevel
kind_once (CheckContents path text) (Shown t) = hlevel
kind_once (CheckContents path text) (Found found) = hlevel
kind_once (CheckContents path text) (Paths paths) = hlevel
kind_once (CheckContents path text) (Sig sig) = hlevel
kind_once (TypeAtPos path line column) (Faults errors) = hlevel
kind_once (TypeAtPos path line column) (Shown t) = hlevel
kind_once (TypeAtPos path line column) (Found found) = hlevel
kind_once (TypeAtPos path line column) (Paths paths) = hlevel
kind_once (TypeAtPos path line column) (Sig sig) = hlevel
kind_once (FindModule path spec) (Faults errors) = hlevel
kind_once (FindModule path spec) (Shown t) = hlevel
kind_once (FindModule path spec) (Found found) = hlevel
kind_once (FindModule path spec) (Paths paths) = hlevel
kind_once (FindModule path spec) (Sig sig) = hlevel
kind_once Ls (Faults errors) = hlevel
kind_once Ls (Shown t) = hlevel
kind_once Ls (Found found) = hlevel
kind_once Ls (Paths paths) = hlevel
kind_once Ls (Sig sig) = hlevel
kind_once (Importers path) (Faults errors) = hlevel
kind_once (Importers path) (Shown t) = hlevel
kind_once (Importers path) (Found found) = hlevel
kind_once (Importers path) (Paths paths) = hlevel
kind_once (Importers path) (Sig sig) = hlevel
kind_once (Signature path) (Faults errors) = hlevel
kind_once (Signature path) (Shown t) = hlevel
kind_once (Signature path) (Found found) = hlevel
kind_once (Signature path) (Paths paths) = hlevel
kind_once (Signature path) (Sig sig) = hlevel

can_once : (ask : Ask) (answer : Answered) → IsProp (CanAnswer ask answer)
can_once ask (Ok answer) = kind_once ask answer
can_once ask (Err fault) = refusal_once ask fault

pub can_be_printed : CanBePrinted
can_be_printed program ask answer is = ∥∥₁_elim is (can_once ask answer) (λ by. can_by program by.0 ask answer by.2)
