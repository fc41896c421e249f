-- When each answer of the lexer comes.
use Rattle.std.specs.Prelude.{◌≡◌, ◌⊎◌, ℕ, ◌<◌, ◌≤◌, List, Result, Ok, Err, length}
use Rattle.std.specs.Str.{IsUtf8, chars}
use Rattle.js_token.specs.declared.token.Token.{Token}
use Rattle.js_lexer.specs.declared.fault.LexFault.{LexFault}
use Rattle.js_lexer.specs.declared.fault.LexFault.TheVariants.{SourceTooLong, NotUtf8, BadToken, NoMemory}
use Rattle.js_lexer.specs.Cut.{HasTokens, IsStuck}

-- the largest number of bytes of a source
abbrev pub source_limit : ℕ
source_limit = 1048576

-- of a text of characters
abbrev pub TextAnswers : List ℕ → Result (List Token) LexFault → Type 0
TextAnswers text (Ok tokens) = HasTokens 0 text tokens
TextAnswers text (Err (SourceTooLong len)) = ⊥
TextAnswers text (Err NotUtf8) = ⊥
TextAnswers text (Err (BadToken at)) = IsStuck 0 text at
TextAnswers text (Err NoMemory) = Unit {0}

-- of the bytes of a source
abbrev pub Answers : List ℕ → Result (List Token) LexFault → Type 0
Answers source (Ok tokens) = (length source ≤ source_limit) × IsUtf8 source × HasTokens 0 (chars source) tokens
Answers source (Err (SourceTooLong len)) = (source_limit < length source) × (len ≡ length source)
Answers source (Err NotUtf8) = (length source ≤ source_limit) × ¬ (IsUtf8 source)
Answers source (Err (BadToken at)) = (length source ≤ source_limit) × IsUtf8 source × IsStuck 0 (chars source) at
Answers source (Err NoMemory) = Unit {0}

-- two answers are the same, unless one of them is want of memory
abbrev pub Agree : Result (List Token) LexFault → Result (List Token) LexFault → Type 0
Agree a b = (a ≡ b) ⊎ ((a ≡ Err NoMemory) ⊎ (b ≡ Err NoMemory))
