-- The tokens that can go on a type.
use Rattle.std.specs.Prelude.{◌≡◌, Bool, true, false, [], ◌∷◌}
use Rattle.js_token.specs.declared.token.TokenKind.{TokenKind}
use Rattle.js_token.specs.declared.token.TokenKind.TheVariants.{Punct}
use Rattle.js_token.specs.declared.punct.Punct.TheVariants.{OpenBracket, Arrow, Bar}
use Rattle.js_grammar.specs.TypeSpelling.{Tokens}

-- `=>` only where a function type may stand outside brackets
abbrev pub goes_on_type : Bool → TokenKind → Bool
goes_on_type plain (Punct OpenBracket) = true
goes_on_type plain (Punct Bar) = true
goes_on_type plain (Punct Arrow) = plain
goes_on_type plain _ = false

-- a form is not gone on: the tokens behind it end, or begin with none that can
abbrev pub IsEnded : (TokenKind → Bool) → Tokens → Type 0
IsEnded goes_on [] = Unit {0}
IsEnded goes_on (x ∷ l) = goes_on x ≡ false
