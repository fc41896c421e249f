-- Bytes that are neither blank nor a command say nothing.
use Rattle.std.proofs.Common.{◌≡◌, Some, sym, ap, ◌∙◌, subst, inl, inr}
use Rattle.std.specs.Prelude.{codes, bytes_eq}
use Rattle.std.proofs.lemmas.Bool.{false≢true}
use Rattle.std.proofs.lemmas.Option.{same_Some}
use Rattle.serde_json.specs.Data.{Data}
use Rattle.serde_json.specs.Find.{get}
use Rattle.flow_values.specs.Path.{Bytes}
use Rattle.asks.specs.declared.ask.Ask as the_ask
use Rattle.ask_line.specs.Asking.{HasText, Asks}
use Rattle.script_line.specs.declared.line.Line.{Line}
use Rattle.script_line.specs.declared.line.Line.TheVariants.{Blank, Edit, Delete, Touch, Recheck, Ask, End}
use Rattle.script_line.specs.Says.{Commands, IsBlankLine, IsCommand, Says, SaysNothing}
use Rattle.script_line.proofs.Commanding.{do_word, has_word}

pub says_nothing : (bytes : Bytes) → (IsBlankLine bytes → ⊥) → ((l : Line) → IsCommand bytes l → ⊥) → SaysNothing bytes
says_nothing bytes blank none = (says_none, λ count many. none many.0 many.1) where
  says_none : (l : Line) → Says bytes l → ⊥
  says_none l (inl is) = blank is.0
  says_none l (inr is) = none l is.0

-- an object with the word of a question, in which nothing is asked, is no command
pub asks_nothing : (value inner : Data) → HasText (codes "do") (codes "ask") value → get (codes "ask") value ≡ Some inner → ((asked : the_ask.Ask) → Asks inner asked → ⊥) → (l : Line) → Commands value l → ⊥
asks_nothing value inner has at never l is = by l (ap (bytes_eq (codes "ask")) (same_Some (do_word l) (codes "ask") (sym (has_word value l is) ∙ has))) is where
  by : (l : Line) → bytes_eq (codes "ask") (do_word l) ≡ bytes_eq (codes "ask") (codes "ask") → Commands value l → ⊥
  by Blank word is = is
  by (Edit path text) word is = false≢true word
  by (Delete path) word is = false≢true word
  by (Touch path) word is = false≢true word
  by (Recheck stop asks) word is = false≢true word
  by (Ask asked) word is = never asked (subst (λ d. Asks d asked) (same_Some is.1.0 inner (sym is.1.1 ∙ at)) is.1.2)
  by End word is = false≢true word
