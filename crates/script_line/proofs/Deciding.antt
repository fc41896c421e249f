-- Bytes say a command, have too many questions, or say nothing.
use Rattle.std.proofs.Common.{◌≡◌, ℕ, List, length, Option, Some, None, refl, sym, ap, ◌∙◌, subst, inl, inr, ◌⊎◌}
use Rattle.std.specs.Prelude.{codes, IsTrue, IsUtf8}
use Rattle.std.proofs.lemmas.Bool.{cases_lt}
use Rattle.std.proofs.lemmas.List.Elements.{All-from_recursion, recursion_from_All}
use Rattle.std.proofs.lemmas.Option.{none-some, same_Some}
use Rattle.serde_json.specs.Data.{Data}
use Rattle.serde_json.specs.Find.{get}
use Rattle.serde_json.specs.Read.{read}
use Rattle.flow_values.specs.Path.{Bytes}
use Rattle.asks.specs.declared.ask.Ask as the_ask
use Rattle.ask_line.specs.Asking.{text_at, HasText, Asks}
use Rattle.ask_line.proofs.Deciding.{OrNot, both, alike, each_or_not, true_or_not, bytes_or_not, utf8_or_not, normal_or_not, asks_or_not}
use Rattle.script_line.specs.declared.line.Line.{Line}
use Rattle.script_line.specs.declared.line.Line.TheVariants.{Blank, Edit, Delete, Touch, Recheck, Ask, End}
use Rattle.script_line.specs.Says.{is_blank, stop_in, HasBeside, Commands, IsBlankLine, IsCommand, asks_beside, MOST_ASKS, Says, SaysTooMany, SaysNothing}
use Rattle.script_line.proofs.Questions.{SomeOrNone, beside_or_none}
use Rattle.script_line.proofs.Commanding.{do_word, has_word, line_by, is_by_word}
use Rattle.script_line.proofs.Nothing.{says_nothing}

-- ---- facts that hold or don't

all_three : {P Q R : Type 0} → OrNot P → OrNot Q → OrNot R → OrNot (P × Q × R)
all_three p q r = alike (λ all. (all.0, all.1.0, all.1.1)) (λ all. (all.0, (all.1, all.2))) (both p (both q r))

all_four : {P Q R S : Type 0} → OrNot P → OrNot Q → OrNot R → OrNot S → OrNot (P × Q × R × S)
all_four p q r s = alike (λ all. (all.0, all.1.0, all.1.1.0, all.1.1.1)) (λ all. (all.0, (all.1, (all.2, all.3)))) (both p (both q (both r s)))

-- ---- commands

-- what stands in a place that may be empty
stands_or_not : {X : Type 0} → ((a b : X) → OrNot (a ≡ b)) → (o : Option X) (x : X) → OrNot (o ≡ Some x)
stands_or_not same None x = inr (λ is. none-some x is)
stands_or_not same (Some y) x = alike (ap Some) (same_Some y x) (same y x)

has_text_or_not : (key text : Bytes) (value : Data) → OrNot (HasText key text value)
has_text_or_not key text value = stands_or_not bytes_or_not (text_at key value) text

-- the object is a question, or it is none
ask_or_none : (value : Data) → SomeOrNone (λ asked. Commands value (Ask asked))
ask_or_none value = by (has_text_or_not (codes "do") (codes "ask") value) (get (codes "ask") value) refl where
  of_inner : (inner : Data) → HasText (codes "do") (codes "ask") value → get (codes "ask") value ≡ Some inner → SomeOrNone (Asks inner)
      → SomeOrNone (λ asked. Commands value (Ask asked))
  of_inner inner has at (inl asks) = inl (asks.0, (has, (inner, at, asks.1)))
  of_inner inner has at (inr never) = inr (λ asked is. never asked (subst (λ d. Asks d asked) (same_Some is.1.0 inner (sym is.1.1 ∙ at)) is.1.2))

  by : OrNot (HasText (codes "do") (codes "ask") value) → (o : Option Data) → get (codes "ask") value ≡ o
      → SomeOrNone (λ asked. Commands value (Ask asked))
  by (inr never) o at = inr (λ asked is. never is.0)
  by (inl has) None at = inr (λ asked is. none-some is.1.0 (sym at ∙ is.1.1))
  by (inl has) (Some inner) at = of_inner inner has at (asks_or_not inner)

-- the object is a recheck, or it is none
recheck_or_none : (value : Data) → SomeOrNone (λ (r : ℕ × List the_ask.Ask). Commands value (Recheck r.0 r.1))
recheck_or_none value = by (has_text_or_not (codes "do") (codes "recheck") value) (stop_in value) refl (beside_or_none value) where
  by : OrNot (HasText (codes "do") (codes "recheck") value) → (o : Option ℕ) → stop_in value ≡ o → SomeOrNone (λ l. HasBeside l value) → SomeOrNone (λ (r : ℕ × List the_ask.Ask). Commands value (Recheck r.0 r.1))
  by (inr never) o at beside = inr (λ r is. never is.0)
  by (inl has) None at beside = inr (λ r is. none-some r.0 (sym at ∙ is.1))
  by (inl has) (Some stop) at (inr never) = inr (λ r is. never r.1 is.2)
  by (inl has) (Some stop) at (inl beside) = inl ((stop, beside.0), (has, at, beside.1))

-- where it is neither, the object is a command, or it is none: it can only be the one by its word
module _ (value : Data) (asks_none : (asked : the_ask.Ask) → Commands value (Ask asked) → ⊥) (rechecks_none : (r : ℕ × List the_ask.Ask) → Commands value (Recheck r.0 r.1) → ⊥) where
  command_or_not : (l : Line) → OrNot (Commands value l)
  command_or_not Blank = inr (λ is. is)
  command_or_not (Edit path text) =
      all_four (has_text_or_not (codes "do") (codes "edit") value) (has_text_or_not (codes "path") path value) (normal_or_not path) (has_text_or_not (codes "text") text value)
  command_or_not (Delete path) = all_three (has_text_or_not (codes "do") (codes "delete") value) (has_text_or_not (codes "path") path value) (normal_or_not path)
  command_or_not (Touch path) = all_three (has_text_or_not (codes "do") (codes "touch") value) (has_text_or_not (codes "path") path value) (normal_or_not path)
  command_or_not (Recheck stop asks) = inr (rechecks_none (stop, asks))
  command_or_not (Ask asked) = inr (asks_none asked)
  command_or_not End = has_text_or_not (codes "do") (codes "end") value

  -- a command of the object is the one by its word
  is_by : (word : Bytes) (l : Line) → text_at (codes "do") value ≡ Some word → Commands value l → line_by word value ≡ Some l
  is_by word l at is = ap (λ w. line_by w value) (same_Some word (do_word l) (sym at ∙ has_word value l is)) ∙ is_by_word value l is

  of_line : (word : Bytes) → text_at (codes "do") value ≡ Some word → (o : Option Line) → line_by word value ≡ o → SomeOrNone (Commands value)
  of_line word at None none = inr (λ l is. none-some l (sym none ∙ is_by word l at is))
  of_line word at (Some line) some = elim (command_or_not line) [
    | inl is ↦ inl (line, is)
    | inr never ↦ inr (λ l is. never (subst (Commands value) (same_Some l line (sym (is_by word l at is) ∙ some)) is))
  ]

  by_word : (o : Option Bytes) → text_at (codes "do") value ≡ o → SomeOrNone (Commands value)
  by_word None lacks = inr (λ l is. none-some (do_word l) (sym lacks ∙ has_word value l is))
  by_word (Some word) at = of_line word at (line_by word value) refl

command_or_none : (value : Data) → SomeOrNone (Commands value)
command_or_none value = by (ask_or_none value) (recheck_or_none value) where
  by : SomeOrNone (λ asked. Commands value (Ask asked)) → SomeOrNone (λ (r : ℕ × List the_ask.Ask). Commands value (Recheck r.0 r.1)) → SomeOrNone (Commands value)
  by (inl asks) recheck = inl (Ask asks.0, asks.1)
  by (inr never) (inl recheck) = inl (Recheck recheck.0.0 recheck.0.1, recheck.1)
  by (inr asks_none) (inr rechecks_none) = by_word value asks_none rechecks_none (text_at (codes "do") value) refl

-- ---- lines

-- the bytes are a command's JSON text, or they are none's
json_or_none : (bytes : Bytes) → SomeOrNone (IsCommand bytes)
json_or_none bytes = by (utf8_or_not bytes) (read bytes) refl where
  of_value : (value : Data) → IsUtf8 bytes → read bytes ≡ Some value → SomeOrNone (Commands value)
      → SomeOrNone (IsCommand bytes)
  of_value value text is (inl command) = inl (command.0, (value, (text, is), command.1))
  of_value value text is (inr none) = inr (λ l also. none l (subst (λ v. Commands v l) (same_Some also.0 value (sym also.1.1 ∙ is)) also.2))

  by : OrNot (IsUtf8 bytes) → (value : Option Data) → read bytes ≡ value
      → SomeOrNone (IsCommand bytes)
  by (inr never) value is = inr (λ l also. never also.1.0)
  by (inl text) None is = inr (λ l also. none-some _ (sym is ∙ also.1.1))
  by (inl text) (Some value) is = of_value value text is (command_or_none value)

blank_or_not : (bytes : Bytes) → OrNot (IsBlankLine bytes)
blank_or_not bytes =
    alike (All-from_recursion (λ b. IsTrue (is_blank b)) bytes) (recursion_from_All (λ b. IsTrue (is_blank b)) bytes)
    (each_or_not (λ b. IsTrue (is_blank b)) (λ b. true_or_not (is_blank b)) bytes)

pub says_or_not : (bytes : Bytes) → ((l : Line) × Says bytes l) ⊎ (((count : ℕ) × SaysTooMany bytes count) ⊎ SaysNothing bytes)
says_or_not bytes = by (blank_or_not bytes) (json_or_none bytes) where
  of_command : (l : Line) → IsCommand bytes l → ((l : Line) × Says bytes l) ⊎ (((count : ℕ) × SaysTooMany bytes count) ⊎ SaysNothing bytes)
  of_command l is = elim (cases_lt MOST_ASKS (length (asks_beside l))) [
    | inl past ↦ inr (inl (length (asks_beside l), (l, is, refl, past)))
    | inr within ↦ inl (l, inr (is, within))
  ]

  by : OrNot (IsBlankLine bytes) → SomeOrNone (IsCommand bytes) → ((l : Line) × Says bytes l) ⊎ (((count : ℕ) × SaysTooMany bytes count) ⊎ SaysNothing bytes)
  by (inl blank) json = inl (Blank, inl (blank, refl))
  by (inr not_blank) (inl json) = of_command json.0 json.1
  by (inr not_blank) (inr none) = inr (inr (says_nothing bytes not_blank none))
