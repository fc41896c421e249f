-- What the bytes of a script's line say.
use Rattle.std.specs.Prelude.{◌≡◌, ◌⊎◌, ◌==◌, ◌||◌, ◌<◌, ◌≤◌, ℕ, zero, suc, List, [], length, Bool, All, IsTrue, IsUtf8, Option, Some, None, option_and_then, codes}
use Rattle.std.specs.List.{AllZip}
use Rattle.serde_json.specs.Data.{Data, array}
use Rattle.serde_json.specs.Read.{read}
use Rattle.serde_json.specs.Find.{get, as_number, as_u64}
use Rattle.serde_json.specs.View.{items_of}
use Rattle.flow_values.specs.Path.{Bytes, IsNormalPath}
use Rattle.asks.specs.declared.ask.Ask as the_ask
use Rattle.ask_line.specs.Asking.{HasText, Asks}
use Rattle.script_line.specs.declared.line.Line.{Line}
use Rattle.script_line.specs.declared.line.Line.TheVariants.{Blank, Edit, Delete, Touch, Recheck, Ask, End}

-- space, tab or CR
abbrev pub is_blank : ℕ → Bool
is_blank b = b == 32 || b == 9 || b == 13

-- the value of a JSON text
abbrev pub IsJson : Bytes → Data → Type 0
IsJson bytes value = IsUtf8 bytes × (read bytes ≡ Some value)

-- the number of a poll, counted from 1
abbrev pub poll_of : ℕ → Option ℕ
poll_of zero = None
poll_of (suc k) = Some (suc k)

-- the poll at which a recheck is to stop, by what stands at the key `stop`: a whole number from 1 to 2^64 - 1, or 0 for none where nothing
-- stands there
abbrev pub stop_by : Option Data → Option ℕ
stop_by None = Some 0
stop_by (Some value) = option_and_then poll_of (option_and_then as_u64 (as_number value))

abbrev pub stop_in : Data → Option ℕ
stop_in value = stop_by (get (codes "stop") value)

-- the questions beside a recheck, by what stands at the key `asks`: those of an array's values, in order, or none where nothing stands there
abbrev pub BesideBy : Option Data → List the_ask.Ask → Type 0
BesideBy None asks = asks ≡ []
BesideBy (Some value) asks = (values : List Data) × (value ≡ array (items_of values)) × AllZip Asks values asks

abbrev pub HasBeside : List the_ask.Ask → Data → Type 0
HasBeside asks value = BesideBy (get (codes "asks") value) asks

-- the object is a command, however many questions it has; keys that are not named are ignored
abbrev pub Commands : Data → Line → Type 0
Commands value Blank = ⊥
Commands value (Edit path text) =
    HasText (codes "do") (codes "edit") value × HasText (codes "path") path value × IsNormalPath path × HasText (codes "text") text value
Commands value (Delete path) = HasText (codes "do") (codes "delete") value × HasText (codes "path") path value × IsNormalPath path
Commands value (Touch path) = HasText (codes "do") (codes "touch") value × HasText (codes "path") path value × IsNormalPath path
Commands value (Recheck stop asks) = HasText (codes "do") (codes "recheck") value × (stop_in value ≡ Some stop) × HasBeside asks value
Commands value (Ask asked) = HasText (codes "do") (codes "ask") value × ((inner : Data) × (get (codes "ask") value ≡ Some inner) × Asks inner asked)
Commands value End = HasText (codes "do") (codes "end") value

-- the line is blank
abbrev pub IsBlankLine : Bytes → Type 0
IsBlankLine bytes = All (λ b. IsTrue (is_blank b)) bytes

-- the line is a command's JSON text, however many questions it has
abbrev pub IsCommand : Bytes → Line → Type 0
IsCommand bytes line = (value : Data) × IsJson bytes value × Commands value line

-- the questions beside a line's recheck
abbrev pub asks_beside : Line → List the_ask.Ask
asks_beside (Recheck stop asks) = asks
asks_beside line = []

-- the most questions beside a recheck
abbrev pub MOST_ASKS : ℕ
MOST_ASKS = 64

-- the bytes of a line, without its LF, say this
abbrev pub Says : Bytes → Line → Type 0
Says bytes line = (IsBlankLine bytes × (line ≡ Blank)) ⊎ (IsCommand bytes line × (length (asks_beside line) ≤ MOST_ASKS))

-- they would say a command, but it has so many questions, which is more than there may be
abbrev pub SaysTooMany : Bytes → ℕ → Type 0
SaysTooMany bytes count = (line : Line) × IsCommand bytes line × (length (asks_beside line) ≡ count) × (MOST_ASKS < count)

-- they say nothing, nor have they too many questions
abbrev pub SaysNothing : Bytes → Type 0
SaysNothing bytes = ((line : Line) → Says bytes line → ⊥) × ((count : ℕ) → SaysTooMany bytes count → ⊥)
