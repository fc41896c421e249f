-- What is read at the front of a text.
use Rattle.std.specs.Prelude.{ℕ, ◌<◌, ◌≤◌, List, Option, Some, None, length, take, drop}
use Rattle.std.specs.Str.{encode_utf8_all}
use Rattle.std.specs.Option.{option_map}
use Rattle.js_token.specs.declared.token.TokenKind.TheVariants.{Name, Number, Punct}
use Rattle.lex_pieces.specs.declared.piece.Piece.{Piece}
use Rattle.lex_pieces.specs.Marks.{mark_at}
use Rattle.lex_pieces.specs.Pieces.{IsLongest, BeginsNoPiece}

-- the longest piece that begins there, or None where none does
abbrev pub IsRead : List ℕ → Option Piece → Type 0
IsRead text None = BeginsNoPiece text
IsRead text (Some piece) = (0 < piece.len) × (piece.len ≤ length text) × IsLongest piece.kind (take piece.len text) (drop piece.len text)

-- a blank, a word or a number of this length, and the longest mark
abbrev pub blank_piece : ℕ → Piece
blank_piece len = record { kind = None; len = len }

abbrev pub word_piece : List ℕ → ℕ → Piece
word_piece text len = record { kind = Some (Name (encode_utf8_all (take len text))); len = len }

abbrev pub number_piece : List ℕ → ℕ → Piece
number_piece text len = record { kind = Some (Number (encode_utf8_all (take len text))); len = len }

abbrev pub mark_piece : List ℕ → Option Piece
mark_piece text = option_map (λ mark. record { kind = Some (Punct mark.0); len = mark.1 }) (mark_at text)
