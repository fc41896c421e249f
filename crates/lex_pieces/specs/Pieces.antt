-- The pieces of a source: which characters are a blank, and which are a token.
use Rattle.std.specs.Prelude.{◌≡◌, ℕ, ◌≤◌, ◌⊎◌, List, [], ◌∷◌, ◌++◌, Option, Some, None, IsTrue, codes, length, ◌==◌, not}
use Rattle.std.specs.List.{list_all}
use Rattle.std.specs.Str.{encode_utf8_all}
use Rattle.js_token.specs.declared.token.TokenKind.{TokenKind}
use Rattle.js_token.specs.declared.token.TokenKind.TheVariants.{Name, Number, Str, Punct}
use Rattle.js_token.specs.Marks.{spelling}
use Rattle.lex_pieces.specs.Characters.{is_blank_char, LF}
use Rattle.source_characters.specs.Words.{starts_word, continues_word}
use Rattle.lex_pieces.specs.Numbers.{IsNumber}
use Rattle.lex_pieces.specs.Strings.{IsString}

-- `//` up to the next LF or the end
abbrev pub IsLineComment : List ℕ → List ℕ → Type 0
IsLineComment text rest = (body : List ℕ) × (text ≡ codes "//" ++ body) × IsTrue (list_all (λ c. not (c == LF)) body)
    × ((rest ≡ []) ⊎ ((more : List ℕ) × (rest ≡ LF ∷ more)))

-- `*/` stands in the text at its end alone
abbrev pub ClosesAtEnd : List ℕ → Type 0
ClosesAtEnd text = (before after : List ℕ) → text ≡ before ++ codes "*/" ++ after → after ≡ []

-- `/*` up to the first `*/`
abbrev pub IsBlockComment : List ℕ → Type 0
IsBlockComment text = (body : List ℕ) × (text ≡ codes "/*" ++ body ++ codes "*/") × ClosesAtEnd (body ++ codes "*/")

-- a blank character or a comment
abbrev pub IsBlank : List ℕ → List ℕ → Type 0
IsBlank text rest = ((c : ℕ) × (text ≡ c ∷ []) × IsTrue (is_blank_char c)) ⊎ (IsLineComment text rest ⊎ IsBlockComment text)

-- a character that starts a word, and any that go on with it
abbrev pub IsWord : List ℕ → Type 0
IsWord text = (c : ℕ) × (cs : List ℕ) × (text ≡ c ∷ cs) × IsTrue (starts_word c) × IsTrue (list_all continues_word cs)

-- the token is written so, where `rest` follows; its texts are UTF-8
abbrev pub IsToken : TokenKind → List ℕ → List ℕ → Type 0
IsToken (Name name) text rest = IsWord text × (name ≡ encode_utf8_all text)
IsToken (Number number) text rest = IsNumber text rest × (number ≡ encode_utf8_all text)
IsToken (Str value) text rest = (decoded : List ℕ) × IsString text decoded rest × (value ≡ encode_utf8_all decoded)
IsToken (Punct mark) text rest = text ≡ spelling mark

-- a piece is a blank, or a token of this kind
abbrev pub IsPiece : Option TokenKind → List ℕ → List ℕ → Type 0
IsPiece None = IsBlank
IsPiece (Some kind) = IsToken kind

-- a piece, and no longer front of the text is one
pub record IsLongest (kind : Option TokenKind) (text rest : List ℕ) : Type 0 where
  pub piece : IsPiece kind text rest
  pub longest : (k : Option TokenKind) (t r : List ℕ) → text ++ rest ≡ t ++ r → IsPiece k t r → length t ≤ length text

-- no front of the text is a piece
abbrev pub BeginsNoPiece : List ℕ → Type 0
BeginsNoPiece text = (k : Option TokenKind) (t r : List ℕ) → text ≡ t ++ r → IsPiece k t r → ⊥
