-- The work that an analyst does for an answer.
use Rattle.std.specs.Prelude.{◌≡◌, Ok, Err}
use Rattle.analyst.specs.Work.{Work, work_of, done, IsWithin}
use Rattle.asks.specs.declared.answer.AskFault.TheVariants.{UnknownPath, NoExpression, NoMemory}
use Rattle.asks.specs.declared.ask.Ask.{Ask}
use Rattle.asks.specs.declared.ask.Ask.TheVariants.{Status, Errors, CheckContents, TypeAtPos, FindModule, Ls, Importers, Signature}
use Rattle.heap_answers.specs.answers_law.specs.Answers.{Answered}

-- a text is read and checked
abbrev pub checking_text : Work
checking_text = work_of 1 0 1

-- For a text that is answered all of it was done, where memory was refused no more than it, and nothing where the path is unknown.
abbrev pub WorksOnText : Answered → Work → Work → Type 0
WorksOnText (Ok answer) before now = now ≡ done before checking_text
WorksOnText (Err NoMemory) before now = IsWithin before now checking_text
WorksOnText (Err UnknownPath) before now = now ≡ before
WorksOnText (Err NoExpression) before now = now ≡ before

-- For all else that is asked nothing was done.
abbrev pub WorksFor : Ask → Answered → Work → Work → Type 0
WorksFor (CheckContents path text) answer before now = WorksOnText answer before now
WorksFor Status answer before now = now ≡ before
WorksFor (Errors path) answer before now = now ≡ before
WorksFor (TypeAtPos path line column) answer before now = now ≡ before
WorksFor (FindModule path spec) answer before now = now ≡ before
WorksFor Ls answer before now = now ≡ before
WorksFor (Importers path) answer before now = now ≡ before
WorksFor (Signature path) answer before now = now ≡ before
