-- Each source has an answer of the lexer.
use Rattle.std.specs.Prelude.{◌≢◌, ◌⊎◌, ℕ, List, Ok, Err}
use Rattle.js_token.specs.declared.token.Token.{Token}
use Rattle.js_lexer.specs.declared.fault.LexFault.{LexFault}
use Rattle.js_lexer.specs.declared.fault.LexFault.TheVariants.{NoMemory}
use Rattle.js_lexer.specs.Answers.{Answers}

-- tokens, or a fault that isn't want of memory
abbrev pub HasAnswer : List ℕ → Type 0
HasAnswer source = ((tokens : List Token) × Answers source (Ok tokens)) ⊎ ((fault : LexFault) × (fault ≢ NoMemory) × Answers source (Err fault))

abbrev pub EachHasAnswer : Type 0
EachHasAnswer = (source : List ℕ) → HasAnswer source
