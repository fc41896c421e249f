-- How deep tokens nest.
use Rattle.std.specs.Prelude.{ℕ, ◌≤◌, nat_lt, Bool, true, false, List, [], ◌∷◌, length, codes}
use Rattle.std.specs.Str.{bytes_eq}
use Rattle.js_token.specs.declared.token.TokenKind.{TokenKind}
use Rattle.js_token.specs.declared.token.TokenKind.TheVariants.{Name, Number, Str, Punct}
use Rattle.js_token.specs.declared.punct.Punct.{Punct as Mark}
use Rattle.js_token.specs.declared.punct.Punct.TheVariants.{OpenBrace, CloseBrace, OpenParen, CloseParen, OpenBracket, CloseBracket, Comma, Semicolon, Question, Arrow, LessThan}
use Rattle.js_grammar.specs.TypeSpelling.{Tokens}

-- what is open, the last first: true for a bracket, false for `=>`, `?` and `<`
abbrev pub Opened : Type 0
Opened = List Bool

-- what is left where the last bracket, and all above it, is closed
abbrev pub close_bracket : Opened → Opened
close_bracket [] = []
close_bracket (true ∷ o) = o
close_bracket (false ∷ o) = close_bracket o

-- what is left where all above the last bracket is closed
abbrev pub close_parts : Opened → Opened
close_parts [] = []
close_parts (true ∷ o) = true ∷ o
close_parts (false ∷ o) = close_parts o

-- what is open, and whether the last token is `}`
pub data Nest : Type 0 where
  nested : Opened → Bool → Nest

-- how many entries are open
abbrev pub height : Nest → ℕ
height (nested o b) = length o

-- a word other than `as` closes as `;` does where it directly follows `}`
abbrev pub after_word : Opened → Bool → Bool → Opened
after_word o true false = close_parts o
after_word o true true = o
after_word o false is_as = o

-- what a mark leaves open
abbrev pub marked : Opened → Mark → Opened
marked o OpenParen = true ∷ o
marked o OpenBracket = true ∷ o
marked o OpenBrace = true ∷ o
marked o Arrow = false ∷ o
marked o Question = false ∷ o
marked o LessThan = false ∷ o
marked o CloseParen = close_bracket o
marked o CloseBracket = close_bracket o
marked o CloseBrace = close_bracket o
marked o Comma = close_parts o
marked o Semicolon = close_parts o
marked o _ = o

-- whether the mark is `}`
abbrev pub closes_brace : Mark → Bool
closes_brace CloseBrace = true
closes_brace _ = false

-- what a token leaves open
abbrev pub nest : Nest → TokenKind → Nest
nest (nested o b) (Punct m) = nested (marked o m) (closes_brace m)
nest (nested o b) (Name w) = nested (after_word o b (bytes_eq w (codes "as"))) false
nest (nested o b) (Number n) = nested o false
nest (nested o b) (Str s) = nested o false

-- before the first token
abbrev pub no_nest : Nest
no_nest = nested [] false

-- how many entries a token may leave open
abbrev pub max_nesting : ℕ
max_nesting = 200

-- whether more is open than the limit allows
abbrev pub is_deep : Nest → Bool
is_deep n = nat_lt max_nesting (height n)

-- each token leaves at most 200 entries open
abbrev pub StaysWithin : Nest → Tokens → Type 0
StaysWithin n [] = Unit {0}
StaysWithin n (x ∷ l) = (height (nest n x) ≤ max_nesting) × StaysWithin (nest n x) l

-- the tokens stay within the limit, counted from an empty stack
abbrev pub WithinLimit : Tokens → Type 0
WithinLimit l = StaysWithin no_nest l
