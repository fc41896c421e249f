-- What a JSON value asks.
use Rattle.std.specs.Prelude.{◌≡◌, ℕ, Option, Some, None, option_and_then, codes, bytes_eq, if◌then◌else◌}
use Rattle.serde_json.specs.Data.{Data}
use Rattle.serde_json.specs.Find.{get, as_str, as_number, as_u64}
use Rattle.flow_values.specs.Path.{Bytes, IsNormalPath}
use Rattle.asks.specs.declared.ask.Ask.{Ask}
use Rattle.asks.specs.declared.ask.Ask.TheVariants as ask
use Rattle.ask_line.specs.declared.kinds.Kind.{Kind}
use Rattle.ask_line.specs.declared.kinds.Kind.TheVariants.{Status, Errors, CheckContents, TypeAtPos, FindModule, Ls, Importers, Signature}

-- the text at a key of an object, where there is one
abbrev pub text_at : Bytes → Data → Option Bytes
text_at key value = option_and_then as_str (get key value)

-- the whole number at a key of an object, where there is one below 2^64
abbrev pub whole_at : Bytes → Data → Option ℕ
whole_at key value = option_and_then as_u64 (option_and_then as_number (get key value))

-- the object has this text at this key, or this number
abbrev pub HasText : Bytes → Bytes → Data → Type 0
HasText key text value = text_at key value ≡ Some text

abbrev pub HasWhole : Bytes → ℕ → Data → Type 0
HasWhole key n value = whole_at key value ≡ Some n

-- the object has this path
abbrev pub HasPath : Bytes → Data → Type 0
HasPath path value = HasText (codes "path") path value × IsNormalPath path

-- the word of each kind of question
abbrev pub word_of : Kind → Bytes
word_of Status = codes "status"
word_of Errors = codes "errors"
word_of CheckContents = codes "check-contents"
word_of TypeAtPos = codes "type-at-pos"
word_of FindModule = codes "find-module"
word_of Ls = codes "ls"
word_of Importers = codes "importers"
word_of Signature = codes "signature"

-- the object has the parts of a question of this kind, and this is the question
abbrev pub HasParts : Kind → Data → Ask → Type 0
HasParts Status value asked = asked ≡ ask.Status
HasParts Errors value asked = (path : Bytes) × HasPath path value × (asked ≡ ask.Errors path)
HasParts CheckContents value asked = (path : Bytes) × (text : Bytes) × HasPath path value × HasText (codes "text") text value × (asked ≡ ask.CheckContents path text)
HasParts TypeAtPos value asked =
    (path : Bytes) × (line : ℕ) × (column : ℕ) × HasPath path value × HasWhole (codes "line") line value × HasWhole (codes "col") column value × (asked ≡ ask.TypeAtPos path line column)
HasParts FindModule value asked = (path : Bytes) × (spec : Bytes) × HasPath path value × HasText (codes "spec") spec value × (asked ≡ ask.FindModule path spec)
HasParts Ls value asked = asked ≡ ask.Ls
HasParts Importers value asked = (path : Bytes) × HasPath path value × (asked ≡ ask.Importers path)
HasParts Signature value asked = (path : Bytes) × HasPath path value × (asked ≡ ask.Signature path)

-- the value asks this: it has the word of a kind, and its parts; keys that are not named are ignored
abbrev pub Asks : Data → Ask → Type 0
Asks value asked = (kind : Kind) × HasText (codes "what") (word_of kind) value × HasParts kind value asked

-- ---- the kind of a word

abbrev pub kind_named : Bytes → Option Kind
kind_named word =
    if bytes_eq word (word_of Status) then Some Status else
    if bytes_eq word (word_of Errors) then Some Errors else
    if bytes_eq word (word_of CheckContents) then Some CheckContents else
    if bytes_eq word (word_of TypeAtPos) then Some TypeAtPos else
    if bytes_eq word (word_of FindModule) then Some FindModule else
    if bytes_eq word (word_of Ls) then Some Ls else
    if bytes_eq word (word_of Importers) then Some Importers else
    if bytes_eq word (word_of Signature) then Some Signature else None

abbrev pub kind_in : Data → Option Kind
kind_in value = option_and_then kind_named (text_at (codes "what") value)

-- a question of a module alone
abbrev pub IsOfPath : Kind → Type 0
IsOfPath Errors = Unit {0}
IsOfPath Importers = Unit {0}
IsOfPath Signature = Unit {0}
IsOfPath kind = ⊥
