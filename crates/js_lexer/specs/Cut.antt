-- The cut of a text into its pieces, and the tokens among them.
use Rattle.std.specs.Prelude.{◌≡◌, ◌≢◌, ℕ, ◌+◌, List, [], ◌∷◌, ◌++◌, Option, Some, None, length}
use Rattle.std.specs.List.{flat_map}
use Rattle.std.specs.Str.{encode_utf8_all}
use Rattle.js_token.specs.declared.token.TokenKind.{TokenKind}
use Rattle.js_token.specs.declared.token.Token.{Token}
use Rattle.lex_pieces.specs.Pieces.{IsLongest, BeginsNoPiece}

-- A piece of a cut: its characters, and the token that it is, or None for a blank.
pub record Cut : Type 0 where
  pub text : List ℕ
  pub kind : Option TokenKind

-- the characters of the pieces, one behind the other
abbrev pub text_of : List Cut → List ℕ
text_of pieces = flat_map (λ piece. piece.text) pieces

-- each is the longest piece where it begins; behind the last one stands `rest`
abbrev pub AreLongest : List Cut → List ℕ → Type 0
AreLongest [] rest = Unit {0}
AreLongest (piece ∷ pieces) rest = IsLongest piece.kind piece.text (text_of pieces ++ rest) × AreLongest pieces rest

-- how many bytes characters take in UTF-8
abbrev pub byte_len : List ℕ → ℕ
byte_len text = length (encode_utf8_all text)

-- the token of a piece that has these bytes, if it is one
abbrev pub token_of : ℕ → ℕ → Option TokenKind → List Token
token_of start end None = []
token_of start end (Some kind) = record { kind = kind; span = record { start = start; end = end } } ∷ []

-- the tokens among pieces, the first of which begins at the byte `start`
abbrev pub tokens_of : ℕ → List Cut → List Token
tokens_of start [] = []
tokens_of start (piece ∷ pieces) =
    let end = start + byte_len piece.text in token_of start end piece.kind ++ tokens_of end pieces

-- pieces cover the text, which begins at the byte `start`, and these are the tokens among them
abbrev pub HasTokens : ℕ → List ℕ → List Token → Type 0
HasTokens start text tokens = (pieces : List Cut) × (text ≡ text_of pieces) × AreLongest pieces [] × (tokens ≡ tokens_of start pieces)

-- pieces cover the text, which begins at the byte `start`, up to the byte `at`, and there no piece begins
abbrev pub IsStuck : ℕ → List ℕ → ℕ → Type 0
IsStuck start text at = (pieces : List Cut) × (rest : List ℕ) × (text ≡ text_of pieces ++ rest) × AreLongest pieces rest
    × (rest ≢ []) × BeginsNoPiece rest × (at ≡ start + byte_len (text_of pieces))
