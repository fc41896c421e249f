-- What reading one piece answers, and what it puts behind the tokens.
use Rattle.std.specs.Prelude.{◌≡◌, ◌⊎◌, ℕ, ◌+◌, ◌<◌, ◌≤◌, Bool, true, false, ◌&&◌, ◌||◌, ◌==◌, List, [], ◌∷◌, ◌++◌, Option, Some, None, Result, Ok, Err, length, take, drop}
use Rattle.std.specs.Str.{chars}
use Rattle.js_token.specs.declared.token.TokenKind.{TokenKind}
use Rattle.js_token.specs.declared.token.Token.{Token}
use Rattle.js_token.specs.declared.token.TokenKind.TheVariants.{Punct}
use Rattle.js_token.specs.declared.punct.Punct.TheVariants.{Slash}
use Rattle.lex_pieces.specs.declared.piece.Piece.{Piece}
use Rattle.lex_pieces.specs.Comments.{closed_len}
use Rattle.lex_pieces.specs.Escapes.{begins_with}
use Rattle.lex_pieces.specs.Pieces.{IsLongest, BeginsNoPiece}
use Rattle.js_lexer.specs.declared.fault.LexFault.{LexFault}
use Rattle.js_lexer.specs.declared.fault.LexFault.TheVariants.{SourceTooLong, NotUtf8, BadToken, NoMemory}
use Rattle.js_lexer.specs.Cut.{byte_len, token_of}

-- of a step at the byte `at`: how many characters and bytes the piece has
abbrev pub StepAnswers : List ℕ → ℕ → List Token → List Token → Result (ℕ × ℕ) LexFault → Type 0
StepAnswers rest at before after (Ok step) = (kind : Option TokenKind) × (0 < step.0) × (step.0 ≤ length rest)
    × IsLongest kind (take step.0 rest) (drop step.0 rest) × (step.1 ≡ byte_len (take step.0 rest))
    × (after ≡ before ++ token_of at (at + step.1) kind)
StepAnswers rest at before after (Err (SourceTooLong len)) = ⊥
StepAnswers rest at before after (Err NotUtf8) = ⊥
StepAnswers rest at before after (Err (BadToken place)) = (place ≡ at) × BeginsNoPiece rest
StepAnswers rest at before after (Err NoMemory) = Unit {0}

-- the token of a piece with one byte a character was put at the byte `at`
abbrev pub IsPut : Piece → ℕ → List Token → List Token → ℕ × ℕ → Type 0
IsPut piece at before after step = (step.0 ≡ piece.len) × (step.1 ≡ piece.len) × (after ≡ before ++ token_of at (at + piece.len) piece.kind)

-- the characters of the text, or nothing
abbrev pub IsDecoded : List ℕ → List ℕ → Type 0
IsDecoded text decoded = (decoded ≡ []) ⊎ (decoded ≡ chars text)

-- a blank, LF, a tab or CR stands at the front
abbrev pub begins_blank : List ℕ → Bool
begins_blank [] = false
begins_blank (c ∷ cs) = (c == 32) || ((c == 10) || ((c == 9) || (c == 13)))

-- `/*` stands at the front
abbrev pub opens_block : List ℕ → Bool
opens_block [] = false
opens_block (c ∷ cs) = (c == 47) && begins_with 42 cs

-- where this is known, no `*/` begins behind the character at this place
abbrev pub IsUnclosed : Bool → ℕ → List ℕ → Type 0
IsUnclosed known from text = known ≡ true → closed_len (drop (from + 1) text) ≡ None

-- the token that the first mark of such a comment is
abbrev pub slash : Option TokenKind
slash = Some (Punct Slash)
