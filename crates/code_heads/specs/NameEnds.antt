-- What may stand behind the name of a parameter.
use Rattle.std.specs.Prelude.{Bool, true, false}
use Rattle.js_token.specs.declared.token.TokenKind.{TokenKind}
use Rattle.js_token.specs.declared.token.TokenKind.TheVariants.{Punct}
use Rattle.js_token.specs.declared.punct.Punct.TheVariants.{Colon, Question}

-- a colon or a question mark says more of a parameter; any other token stands behind it
abbrev pub says_more : TokenKind → Bool
says_more (Punct Colon) = true
says_more (Punct Question) = true
says_more x = false
