-- What a source's bytes tell of the piece at their front.
use Rattle.std.specs.Prelude.{◌≡◌, ℕ, ◌<◌, Bool, true, ◌&&◌, ◌||◌, ◌==◌, not, nat_lt, List, [], ◌∷◌, Option, Some, None, length, take, if◌then◌else◌}
use Rattle.std.specs.Str.{encode_utf8_all}
use Rattle.source_characters.specs.Words.{continues_word}
use Rattle.js_token.specs.declared.punct.Punct.{Punct}
use Rattle.js_token.specs.declared.punct.Punct.TheVariants.{OpenBrace, CloseBrace, OpenParen, CloseParen, OpenBracket, CloseBracket, Comma, Semicolon, Colon, Percent}
use Rattle.lex_pieces.specs.declared.piece.Piece.{Piece}
use Rattle.lex_pieces.specs.declared.start.Start.{Start}
use Rattle.lex_pieces.specs.Characters.{goes_on, LF}
use Rattle.lex_pieces.specs.Escapes.{begins_with}
use Rattle.lex_pieces.specs.Read.{IsRead, mark_piece}
use Rattle.lex_pieces.specs.Starts.{start_of}

abbrev pub is_ascii : ℕ → Bool
is_ascii b = nat_lt b 128

-- the text that these bytes are the UTF-8 of begins with this longest piece, each of whose characters is one byte
pub record Tells (bytes : List ℕ) (piece : Piece) : Type 0 where
  pub reads : (text : List ℕ) → encode_utf8_all text ≡ bytes → IsRead text (Some piece)
  pub size : (text : List ℕ) → encode_utf8_all text ≡ bytes → length (encode_utf8_all (take piece.len text)) ≡ piece.len

-- None tells nothing
abbrev pub IsTold : List ℕ → Option Piece → Type 0
IsTold bytes None = Unit {0}
IsTold bytes (Some piece) = Tells bytes piece

-- the first byte is ASCII, and the piece that begins with it can be this
abbrev pub Begins : Start → List ℕ → Type 0
Begins start [] = ⊥
Begins start (b ∷ bytes) = (b < 128) × (start_of b ≡ start)

-- an ASCII character that may go on a word
abbrev pub is_word_byte : ℕ → Bool
is_word_byte b = is_ascii b && continues_word b

-- what follows is ASCII, or nothing
abbrev pub ends_told : List ℕ → Bool
ends_told [] = true
ends_told (b ∷ bytes) = is_ascii b

-- the first three are ASCII, as far as there are so many
abbrev pub front_is_ascii : List ℕ → Bool
front_is_ascii [] = true
front_is_ascii (a ∷ []) = is_ascii a
front_is_ascii (a ∷ b ∷ []) = is_ascii a && is_ascii b
front_is_ascii (a ∷ b ∷ c ∷ bytes) = is_ascii a && is_ascii b && is_ascii c

-- behind a whole number, neither a digit, a dot nor what goes on a word, and no byte of a longer character
abbrev pub stops_whole : List ℕ → Bool
stops_whole bytes = ends_told bytes && not (begins_with 46 bytes) && not (goes_on bytes)

-- the quote, `\`, LF or CR
abbrev pub ends_plain : ℕ → ℕ → Bool
ends_plain quote b = (b == quote) || (b == 92) || (b == 10) || (b == 13)

-- an ASCII character that stands for itself in a string with this quote
abbrev pub is_plain_byte : ℕ → ℕ → Bool
is_plain_byte quote b = is_ascii b && not (ends_plain quote b)

-- an ASCII character of a line's comment
abbrev pub is_line_byte : ℕ → Bool
is_line_byte b = is_ascii b && not (b == LF)

-- the line ends here
abbrev pub line_ends : List ℕ → Bool
line_ends [] = true
line_ends (b ∷ bytes) = b == LF

-- the mark at the front, where three ASCII characters tell it
abbrev pub mark_told : List ℕ → Option Piece
mark_told bytes = if front_is_ascii bytes then mark_piece bytes else None

-- the mark that begins with this character, where no other one does
abbrev pub mark_alone : ℕ → Option Punct
mark_alone a =
    if a == 123 then Some OpenBrace else
    if a == 125 then Some CloseBrace else
    if a == 40 then Some OpenParen else
    if a == 41 then Some CloseParen else
    if a == 91 then Some OpenBracket else
    if a == 93 then Some CloseBracket else
    if a == 44 then Some Comma else
    if a == 59 then Some Semicolon else
    if a == 58 then Some Colon else
    if a == 37 then Some Percent else None
