-- A line says one command at most: a blank one is no JSON text, and an object has one word at the key `do`.
use Rattle.std.proofs.Common.{◌≡◌, ℕ, ◌<◌, ◌≤◌, ◌==◌, eqb-true, List, [], ◌∷◌, length, Option, Some, None, refl, sym, ap, ◌∙◌, subst, inl, inr, arith}
use Rattle.std.specs.Prelude.{codes, IsTrue, option_and_then, bytes_eq, if◌then◌else◌}
use Rattle.std.specs.List.{AllByRecursion}
use Rattle.std.specs.Option.{option_map}
use Rattle.std.proofs.lemmas.Bool.{cases_Bool, false≢true}
use Rattle.std.proofs.lemmas.List.Elements.{recursion_from_All}
use Rattle.std.proofs.lemmas.Option.{none-some, same_Some}
use Rattle.json.specs.Json as json
use Rattle.json.specs.Lex.{space, class, lex, lex_byte, between, punctuate, fresh}
use Rattle.json.specs.Token.{Token}
use Rattle.serde_json.specs.Data.{Data}
use Rattle.serde_json.specs.Find.{get}
use Rattle.serde_json.specs.Read.{read, of_json, max_depth}
use Rattle.flow_values.specs.Path.{Bytes}
use Rattle.asks.specs.declared.ask.Ask as the_ask
use Rattle.ask_line.specs.Asking.{text_at, Asks}
use Rattle.ask_line.proofs.Deciding.{asks_or_not}
use Rattle.ask_line.proofs.Words.{same_ask}
use Rattle.script_line.specs.declared.line.Line.{Line}
use Rattle.script_line.specs.declared.line.Line.TheVariants.{Blank, Edit, Delete, Touch, Recheck, Ask, End}
use Rattle.script_line.specs.Says.{is_blank, stop_in, HasBeside, Commands, IsBlankLine, IsCommand, asks_beside, MOST_ASKS, Says, SaysTooMany}
use Rattle.script_line.proofs.Questions.{SomeOrNone, same_beside, beside_or_none}

-- ---- a blank line is no JSON text

blank_byte : (b : ℕ) → IsTrue (is_blank b) → class b ≡ space
blank_byte b is = elim (cases_Bool (b == 32)) [
  | inl at ↦ ap class (eqb-true b 32 at)
  | inr not ↦ elim (cases_Bool (b == 9)) [
    | inl at ↦ ap class (eqb-true b 9 at)
    | inr nor ↦ elim (cases_Bool (b == 13)) [
      | inl at ↦ ap class (eqb-true b 13 at)
      | inr none ↦ absurd (false≢true (cc (is, not, nor, none)))
    ]
  ]
]

blank_lexemes : (bytes : Bytes) → AllByRecursion (λ b. IsTrue (is_blank b)) bytes → lex between bytes ≡ []
unfolding lex
blank_lexemes [] blank = refl
blank_lexemes (b ∷ bytes) blank = ap (λ c. lex_byte between c b bytes (λ next. lex next bytes)) (blank_byte b blank.0) ∙ blank_lexemes bytes blank.1

no_tokens : punctuate fresh [] ≡ []
unfolding punctuate
no_tokens = refl

no_value : json.value max_depth [] ≡ None
unfolding json.value
no_value = refl

of_tokens : List Token → Option Data
of_tokens ts = option_and_then of_json (option_and_then (λ p. json.if_last p.0 p.1) (json.value max_depth ts))

none_of_no_tokens : of_tokens [] ≡ None
unfolding of_tokens
none_of_no_tokens = ap (λ v. option_and_then of_json (option_and_then (λ p. json.if_last p.0 p.1) v)) no_value

pub blank_is_no_json : (bytes : Bytes) → IsBlankLine bytes → read bytes ≡ None
unfolding of_tokens
blank_is_no_json bytes blank =
    ap (λ ls. of_tokens (punctuate fresh ls)) (blank_lexemes bytes (recursion_from_All (λ b. IsTrue (is_blank b)) bytes blank)) ∙ ap of_tokens no_tokens ∙ none_of_no_tokens

-- ---- the word of a command

abbrev pub do_word : Line → Bytes
do_word Blank = []
do_word (Edit path text) = codes "edit"
do_word (Delete path) = codes "delete"
do_word (Touch path) = codes "touch"
do_word (Recheck stop asks) = codes "recheck"
do_word (Ask ask) = codes "ask"
do_word End = codes "end"

pub has_word : (value : Data) (l : Line) → Commands value l → text_at (codes "do") value ≡ Some (do_word l)
has_word value Blank is = absurd is
has_word value (Edit path text) is = is.0
has_word value (Delete path) is = is.0
has_word value (Touch path) is = is.0
has_word value (Recheck stop asks) is = is.0
has_word value (Ask ask) is = is.0
has_word value End is = is

-- ---- what the object says with its word, where that is a command's: it can be no other one

abbrev edit_by : Option Bytes → Option Bytes → Option Line
edit_by path text = option_and_then (λ p. option_map (Edit p) text) path

-- the thing that is there, if there is one
abbrev found : {X : Type 0} {P : X → Type 0} → SomeOrNone P → Option X
found (inl some) = Some some.0
found (inr never) = None

is_found : {X : Type 0} (P : X → Type 0) (o : SomeOrNone P) (x : X) → ((a b : X) → P a → P b → a ≡ b) → P x → found o ≡ Some x
is_found P (inl some) x same is = ap Some (same some.0 x some.1 is)
is_found P (inr never) x same is = absurd (never x is)

-- what a value asks, if it asks something
abbrev asked_in : Data → Option the_ask.Ask
asked_in value = found (asks_or_not value)

is_asked : (value : Data) (asked : the_ask.Ask) → Asks value asked → asked_in value ≡ Some asked
is_asked value asked = is_found (Asks value) (asks_or_not value) asked (same_ask value)

abbrev ask_by : Option Data → Option Line
ask_by inner = option_map Ask (option_and_then asked_in inner)

-- the questions beside a recheck, if they are well-formed
abbrev beside_in : Data → Option (List the_ask.Ask)
beside_in value = found (beside_or_none value)

is_beside : (value : Data) (asks : List the_ask.Ask) → HasBeside asks value → beside_in value ≡ Some asks
is_beside value asks = is_found (λ l. HasBeside l value) (beside_or_none value) asks (same_beside value)

abbrev recheck_by : Option ℕ → Option (List the_ask.Ask) → Option Line
recheck_by stop asks = option_and_then (λ s. option_map (Recheck s) asks) stop

abbrev pub line_by : Bytes → Data → Option Line
line_by word value =
    if bytes_eq word (codes "edit") then edit_by (text_at (codes "path") value) (text_at (codes "text") value) else
    if bytes_eq word (codes "delete") then option_map Delete (text_at (codes "path") value) else
    if bytes_eq word (codes "touch") then option_map Touch (text_at (codes "path") value) else
    if bytes_eq word (codes "recheck") then recheck_by (stop_in value) (beside_in value) else
    if bytes_eq word (codes "ask") then ask_by (get (codes "ask") value) else
    if bytes_eq word (codes "end") then Some End else None

pub is_by_word : (value : Data) (l : Line) → Commands value l → line_by (do_word l) value ≡ Some l
is_by_word value Blank is = absurd is
is_by_word value (Edit path text) is = λ i. edit_by (is.1 i) (is.3 i)
is_by_word value (Delete path) is = ap (option_map Delete) is.1
is_by_word value (Touch path) is = ap (option_map Touch) is.1
is_by_word value (Recheck stop asks) is = λ i. recheck_by (is.1 i) (is_beside value asks is.2 i)
is_by_word value (Ask asked) is = ap ask_by is.1.1 ∙ ap (option_map Ask) (is_asked is.1.0 asked is.1.2)
is_by_word value End is = refl

pub same_command : (value : Data) (a b : Line) → Commands value a → Commands value b → a ≡ b
same_command value a b is also =
    let word : do_word a ≡ do_word b = same_Some (do_word a) (do_word b) (sym (has_word value a is) ∙ has_word value b also) in
    same_Some a b (sym (is_by_word value a is) ∙ ap (λ w. line_by w value) word ∙ is_by_word value b also)

-- ---- lines

one_command : (bytes : Bytes) (a b : Line) → IsCommand bytes a → IsCommand bytes b → a ≡ b
one_command bytes a b is also = same_command is.0 a b is.2 (subst (λ value. Commands value b) (same_Some also.0 is.0 (sym also.1.1 ∙ is.1.1)) also.2)

pub same_line : (bytes : Bytes) (a b : Line) → Says bytes a → Says bytes b → a ≡ b
same_line bytes a b (inl blank) (inl also) = blank.1 ∙ sym also.1
same_line bytes a b (inl blank) (inr json) = absurd (none-some _ (sym (blank_is_no_json bytes blank.0) ∙ json.0.1.1))
same_line bytes a b (inr json) (inl blank) = absurd (none-some _ (sym (blank_is_no_json bytes blank.0) ∙ json.0.1.1))
same_line bytes a b (inr json) (inr also) = one_command bytes a b json.0 also.0

-- too many questions are of one number
pub same_many : (bytes : Bytes) (m n : ℕ) → SaysTooMany bytes m → SaysTooMany bytes n → m ≡ n
same_many bytes m n many also = sym many.2 ∙ ap (λ l. length (asks_beside l)) (one_command bytes many.0 also.0 many.1 also.1) ∙ also.2

-- what is said has no more questions than there may be
pub within_most : (bytes : Bytes) (l : Line) → Says bytes l → length (asks_beside l) ≤ MOST_ASKS
within_most bytes l (inl blank) = let none : length (asks_beside l) ≡ 0 = ap (λ b. length (asks_beside b)) blank.1 in omega (arith, none)
within_most bytes l (inr says) = says.1

pub says_not_both : (bytes : Bytes) (l : Line) (count : ℕ) → Says bytes l → SaysTooMany bytes count → ⊥
says_not_both bytes l count (inl blank) many = none-some _ (sym (blank_is_no_json bytes blank.0) ∙ many.1.1.1)
says_not_both bytes l count (inr says) many =
    let same : length (asks_beside many.0) ≡ length (asks_beside l) = ap (λ b. length (asks_beside b)) (one_command bytes many.0 l many.1 says.0) in
    let is : length (asks_beside many.0) ≡ count = many.2 in
    let over : MOST_ASKS < count = many.3 in
    let within : length (asks_beside l) ≤ MOST_ASKS = says.1 in
    omega (arith, same, is, over, within)
