-- What a piece that begins with a character can be.
use Rattle.std.specs.Prelude.{◌≡◌, ℕ, ◌==◌, List, [], ◌∷◌, if◌then◌else◌}
use Rattle.std.specs.Char.{is_ascii_digit}
use Rattle.lex_pieces.specs.declared.start.Start.{Start}
use Rattle.lex_pieces.specs.declared.start.Start.TheVariants.{Blank, Word, Digit, Quote, Dot, Slash, Mark}
use Rattle.lex_pieces.specs.Characters.{is_blank_char, is_quote}
use Rattle.source_characters.specs.Words.{starts_word}

-- what a piece that begins with this character can be
unfoldable pub start_of : ℕ → Start
start_of c = if is_blank_char c then Blank else if starts_word c then Word else if is_ascii_digit c then Digit
    else if is_quote c then Quote else if c == 46 then Dot else if c == 47 then Slash else Mark

-- the text begins so
abbrev pub Starts : Start → List ℕ → Type 0
Starts start [] = ⊥
Starts start (c ∷ cs) = start_of c ≡ start
