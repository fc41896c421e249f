-- Which answers a question may have.
use Rattle.std.specs.Prelude.{Option, Some, None, Result, Ok, Err}
use Rattle.flow_values.specs.Path.{Bytes}
use Rattle.asks.specs.declared.answer.Answer.{Answer}
use Rattle.asks.specs.declared.answer.Answer.TheVariants.{Faults, Shown, Found, Paths, Sig}
use Rattle.asks.specs.declared.answer.AskFault.{AskFault}
use Rattle.asks.specs.declared.answer.AskFault.TheVariants.{UnknownPath, NoExpression}
use Rattle.asks.specs.declared.ask.Ask.{Ask}
use Rattle.asks.specs.declared.ask.Ask.TheVariants.{Status, Errors, CheckContents, TypeAtPos, FindModule, Ls, Importers, Signature}

-- the path that is asked for
abbrev pub asked_path : Ask → Option Bytes
asked_path Status = None
asked_path (Errors path) = Some path
asked_path (CheckContents path text) = Some path
asked_path (TypeAtPos path line column) = Some path
asked_path (FindModule path spec) = Some path
asked_path Ls = None
asked_path (Importers path) = Some path
asked_path (Signature path) = Some path

-- the answer is of a kind that this is answered with
abbrev pub IsOfKind : Ask → Answer → Type 0
IsOfKind Status (Faults errors) = Unit {0}
IsOfKind (Errors path) (Faults errors) = Unit {0}
IsOfKind (CheckContents path text) (Faults errors) = Unit {0}
IsOfKind (TypeAtPos path line column) (Shown t) = Unit {0}
IsOfKind (FindModule path spec) (Found found) = Unit {0}
IsOfKind Ls (Paths paths) = Unit {0}
IsOfKind (Importers path) (Paths paths) = Unit {0}
IsOfKind (Signature path) (Sig sig) = Unit {0}
IsOfKind ask answer = ⊥

-- a path is unknown only where one is asked for, and no expression is there only where a type is asked for
abbrev pub IsUnknown : Option Bytes → Type 0
IsUnknown None = ⊥
IsUnknown (Some path) = Unit {0}

abbrev pub IsRefusal : Ask → AskFault → Type 0
IsRefusal ask UnknownPath = IsUnknown (asked_path ask)
IsRefusal (TypeAtPos path line column) NoExpression = Unit {0}
IsRefusal ask fault = ⊥

-- It is no want of memory, and of a kind that this is answered with.
abbrev pub CanAnswer : Ask → Result Answer AskFault → Type 0
CanAnswer ask (Ok answer) = IsOfKind ask answer
CanAnswer ask (Err fault) = IsRefusal ask fault
