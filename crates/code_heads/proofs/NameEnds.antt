-- A token that says nothing more of a function's parameter stands behind it.
use Rattle.std.proofs.Common.{◌≡◌, refl, ℕ, Bool, true, false, Option, None}
use Rattle.js_token.specs.declared.token.TokenKind.{TokenKind}
use Rattle.js_token.specs.declared.token.TokenKind.TheVariants.{Name, Number, Str, Punct}
use Rattle.js_token.specs.declared.punct.Punct.TheVariants.{OpenBrace, CloseBrace, OpenParen, CloseParen, OpenBracket, CloseBracket, Dot, Ellipsis, Comma, Semicolon, Colon, Question, QuestionQuestion, Arrow, Assign, StrictEqual, StrictNotEqual, LooseEqual, LooseNotEqual, LessThan, GreaterThan, LessOrEqual, GreaterOrEqual, Plus, PlusPlus, Minus, MinusMinus, Star, Slash, Percent, Bang, AndAnd, OrOr, Bar}
use Rattle.js_grammar.specs.Words.{Bytes}
use Rattle.js_grammar.specs.Code.{Parameters, more_parameter, parameter}
use Rattle.code_law.specs.Frames.{Stack, FunctionKind, of_function}
use Rattle.code_law.specs.Expressions.{parameter_word_step, after_parameter}
use Rattle.code_heads.specs.NameEnds.{says_more}

pub ends_parameter : (i s a : ℕ) (k : Stack) (q : FunctionKind) (f : ℕ) (m : Option Bytes) (ps : Parameters) (n : Bytes) (x : TokenKind) → says_more x ≡ false →
    after_parameter k (of_function q f m) s (more_parameter ps (parameter a i n false None)) x ≡ parameter_word_step i k (of_function q f m) s ps a n x
ends_parameter i s a k q f m ps n (Name w) h = refl
ends_parameter i s a k q f m ps n (Number w) h = refl
ends_parameter i s a k q f m ps n (Str w) h = refl
ends_parameter i s a k q f m ps n (Punct OpenBrace) h = refl
ends_parameter i s a k q f m ps n (Punct CloseBrace) h = refl
ends_parameter i s a k q f m ps n (Punct OpenParen) h = refl
ends_parameter i s a k q f m ps n (Punct CloseParen) h = refl
ends_parameter i s a k q f m ps n (Punct OpenBracket) h = refl
ends_parameter i s a k q f m ps n (Punct CloseBracket) h = refl
ends_parameter i s a k q f m ps n (Punct Dot) h = refl
ends_parameter i s a k q f m ps n (Punct Ellipsis) h = refl
ends_parameter i s a k q f m ps n (Punct Comma) h = refl
ends_parameter i s a k q f m ps n (Punct Semicolon) h = refl
ends_parameter i s a k q f m ps n (Punct Colon) h = absurd (let z : true ≡ false = h in cc)
ends_parameter i s a k q f m ps n (Punct Question) h = absurd (let z : true ≡ false = h in cc)
ends_parameter i s a k q f m ps n (Punct QuestionQuestion) h = refl
ends_parameter i s a k q f m ps n (Punct Arrow) h = refl
ends_parameter i s a k q f m ps n (Punct Assign) h = refl
ends_parameter i s a k q f m ps n (Punct StrictEqual) h = refl
ends_parameter i s a k q f m ps n (Punct StrictNotEqual) h = refl
ends_parameter i s a k q f m ps n (Punct LooseEqual) h = refl
ends_parameter i s a k q f m ps n (Punct LooseNotEqual) h = refl
ends_parameter i s a k q f m ps n (Punct LessThan) h = refl
ends_parameter i s a k q f m ps n (Punct GreaterThan) h = refl
ends_parameter i s a k q f m ps n (Punct LessOrEqual) h = refl
ends_parameter i s a k q f m ps n (Punct GreaterOrEqual) h = refl
ends_parameter i s a k q f m ps n (Punct Plus) h = refl
ends_parameter i s a k q f m ps n (Punct PlusPlus) h = refl
ends_parameter i s a k q f m ps n (Punct Minus) h = refl
ends_parameter i s a k q f m ps n (Punct MinusMinus) h = refl
ends_parameter i s a k q f m ps n (Punct Star) h = refl
ends_parameter i s a k q f m ps n (Punct Slash) h = refl
ends_parameter i s a k q f m ps n (Punct Percent) h = refl
ends_parameter i s a k q f m ps n (Punct Bang) h = refl
ends_parameter i s a k q f m ps n (Punct AndAnd) h = refl
ends_parameter i s a k q f m ps n (Punct OrOr) h = refl
ends_parameter i s a k q f m ps n (Punct Bar) h = refl
