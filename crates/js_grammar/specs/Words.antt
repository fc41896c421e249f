-- Words, as the grammar tells them apart.
use Rattle.std.specs.Prelude.{◌≡◌, ℕ, ◌&&◌, nat_le, Bool, true, false, List, length, codes, if◌then◌else◌}
use Rattle.std.specs.Str.{bytes_eq}
use Rattle.js_token.specs.Words.{is_reserved, is_whole}

-- the bytes of a word, a number or a string
abbrev pub Bytes : Type 0
Bytes = List ℕ

-- a word that is not reserved
abbrev pub IsName : Bytes → Type 0
IsName word = is_reserved word ≡ false

-- the two names of array types, the second of read-only ones
abbrev pub array_name : Bool → Bytes
array_name false = codes "Array"
array_name true = codes "$ReadOnlyArray"

-- whether the word is one of them
abbrev pub names_array : Bytes → Bool
names_array word = if bytes_eq word (array_name false) then true else bytes_eq word (array_name true)

-- a name that may stand alone as a type
abbrev pub IsTypeName : Bytes → Type 0
IsTypeName word = (is_reserved word ≡ false) × (names_array word ≡ false)

-- a number that may stand as a type: whole, of at most 15 digits
abbrev pub is_type_number : Bytes → Bool
is_type_number digits = is_whole digits && nat_le (length digits) 15

-- `true` or `false`
abbrev pub truth_word : Bool → Bytes
truth_word true = codes "true"
truth_word false = codes "false"
