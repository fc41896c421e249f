-- The tokens that can go on an expression: operators, `as`, what follows a form at once, and what goes on a type behind `as`.
use Rattle.std.specs.Prelude.{Bool, true, false, codes}
use Rattle.std.specs.Str.{bytes_eq}
use Rattle.js_token.specs.declared.token.TokenKind.{TokenKind}
use Rattle.js_token.specs.declared.token.TokenKind.TheVariants.{Name, Punct}
use Rattle.js_token.specs.declared.punct.Punct.TheVariants.{QuestionQuestion, OrOr, AndAnd, StrictEqual, StrictNotEqual, LooseEqual, LooseNotEqual, LessThan, GreaterThan, LessOrEqual, GreaterOrEqual, Plus, Minus, Star, Slash, Percent, Question, Dot, OpenParen, OpenBracket, Arrow as ArrowMark, Bar}

-- whether the token can stand behind an expression as a part of a longer one
abbrev pub goes_on_expression : TokenKind → Bool
goes_on_expression (Name n) = bytes_eq n (codes "as")
goes_on_expression (Punct QuestionQuestion) = true
goes_on_expression (Punct OrOr) = true
goes_on_expression (Punct AndAnd) = true
goes_on_expression (Punct StrictEqual) = true
goes_on_expression (Punct StrictNotEqual) = true
goes_on_expression (Punct LooseEqual) = true
goes_on_expression (Punct LooseNotEqual) = true
goes_on_expression (Punct LessThan) = true
goes_on_expression (Punct GreaterThan) = true
goes_on_expression (Punct LessOrEqual) = true
goes_on_expression (Punct GreaterOrEqual) = true
goes_on_expression (Punct Plus) = true
goes_on_expression (Punct Minus) = true
goes_on_expression (Punct Star) = true
goes_on_expression (Punct Slash) = true
goes_on_expression (Punct Percent) = true
goes_on_expression (Punct Question) = true
goes_on_expression (Punct Dot) = true
goes_on_expression (Punct OpenParen) = true
goes_on_expression (Punct OpenBracket) = true
goes_on_expression (Punct ArrowMark) = true
goes_on_expression (Punct Bar) = true
goes_on_expression _ = false
