-- The spelling of strings, and what they decode to.
use Rattle.std.specs.Prelude.{◌≡◌, ◌≢◌, ℕ, ◌+◌, ◌*◌, ◌<◌, Bool, false, ◌||◌, ◌==◌, not, List, [], ◌∷◌, ◌++◌, Option, Some, None, IsTrue, codes, length, map, take, drop, ◌≤◌, if◌then◌else◌}
use Rattle.std.specs.List.{list_all, flat_map, fold}
use Rattle.std.specs.Char.{is_ascii_digit, is_digit, digit_value, IsScalar}
use Rattle.std.specs.Str.{encode_utf8_all}
use Rattle.lex_pieces.specs.Characters.{ends_line, is_quote}

-- One character of a string: what is written for it, and the character.
pub record Part : Type 0 where
  pub written : List ℕ
  pub value : ℕ

-- the number that hexadecimal digits spell
abbrev pub hex_value : List ℕ → ℕ
hex_value ds = fold (λ high d. high * 16 + digit_value d) 0 ds

-- hexadecimal digits that spell the code of a character, which no surrogate is
abbrev pub AreHexOf : List ℕ → ℕ → Type 0
AreHexOf ds c = IsTrue (list_all (λ d. is_digit d 16) ds) × (hex_value ds ≡ c) × IsScalar c

-- the characters of the escapes `\n \t \r \b \f \v`
abbrev pub named_escape : ℕ → Option ℕ
named_escape c = if c == 110 then Some 10 else if c == 116 then Some 9 else if c == 114 then Some 13
    else if c == 98 then Some 8 else if c == 102 then Some 12 else if c == 118 then Some 11 else None

-- what stands for itself behind `\`: neither a digit, `x`, `u`, a named escape nor what ends a line
abbrev pub escapes_itself : ℕ → Bool
escapes_itself c = not (is_ascii_digit c || ends_line c || (c == 120) || (c == 117)
    || (c == 110) || (c == 116) || (c == 114) || (c == 98) || (c == 102) || (c == 118))

abbrev pub starts_with_digit : List ℕ → Bool
starts_with_digit [] = false
starts_with_digit (c ∷ cs) = is_ascii_digit c

-- how a character is written between two of `quote`, where `next` follows
pub data IsPart (quote : ℕ) (part : Part) (next : List ℕ) : Type 0 where
  -- itself, but for the quote, `\`, LF and CR
  plain : part.written ≡ part.value ∷ [] → part.value ≢ quote → part.value ≢ 92 → part.value ≢ 10 → part.value ≢ 13 → IsPart quote part next
  named : (c : ℕ) → part.written ≡ 92 ∷ c ∷ [] → named_escape c ≡ Some part.value → IsPart quote part next
  -- `\0` where no digit follows
  null : part.written ≡ codes "\\0" → part.value ≡ 0 → starts_with_digit next ≡ false → IsPart quote part next
  -- `\xHH`
  two : (ds : List ℕ) → part.written ≡ codes "\\x" ++ ds → length ds ≡ 2 → AreHexOf ds part.value → IsPart quote part next
  -- `\uHHHH`
  four : (ds : List ℕ) → part.written ≡ codes "\\u" ++ ds → length ds ≡ 4 → AreHexOf ds part.value → IsPart quote part next
  -- `\u{H..}`, with one or more digits
  braced : (ds : List ℕ) → part.written ≡ codes "\\u{" ++ ds ++ codes "}" → ds ≢ [] → AreHexOf ds part.value → IsPart quote part next
  -- any other character behind `\`
  itself : part.written ≡ 92 ∷ part.value ∷ [] → IsTrue (escapes_itself part.value) → IsPart quote part next

-- what is written for the parts, one behind the other
abbrev pub written : List Part → List ℕ
written parts = flat_map (λ part. part.written) parts

-- each is a part where the written next ones and then `rest` follow
abbrev pub AreParts : ℕ → List Part → List ℕ → Type 0
AreParts quote [] rest = Unit {0}
AreParts quote (part ∷ parts) rest = IsPart quote part (written parts ++ rest) × AreParts quote parts rest

-- a string is a quote, the parts of these characters, and the quote again
abbrev pub IsString : List ℕ → List ℕ → List ℕ → Type 0
IsString text value rest = (quote : ℕ) × (parts : List Part) × IsTrue (is_quote quote) × AreParts quote parts (quote ∷ rest)
    × (text ≡ quote ∷ written parts ++ quote ∷ []) × (value ≡ map (λ part. part.value) parts)

-- from the quote at the front of the text to the place `at` stand the parts of characters with this UTF-8
abbrev pub ReadsParts : ℕ → List ℕ → ℕ → List ℕ → Type 0
ReadsParts quote text at value = (parts : List Part) × (text ≡ quote ∷ written parts ++ drop at text)
    × AreParts quote parts (drop at text) × (value ≡ encode_utf8_all (map (λ part. part.value) parts))

-- the string at the front of a text, by its UTF-8 and its length, or None where none begins there
abbrev pub IsStringRead : List ℕ → Option (List ℕ × ℕ) → Type 0
IsStringRead text None = (t v r : List ℕ) → text ≡ t ++ r → IsString t v r → ⊥
IsStringRead text (Some found) = (0 < found.1) × (found.1 ≤ length text)
    × ((value : List ℕ) × IsString (take found.1 text) value (drop found.1 text) × (found.0 ≡ encode_utf8_all value))
