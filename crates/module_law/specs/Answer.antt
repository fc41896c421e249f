-- What reading a module answers: by the existence of trees.
use Rattle.std.specs.Prelude.{◌≡◌, ℕ, ◌+◌, ◌≤◌, ◌<◌, length, take, ◌++◌}
use Rattle.js_grammar.specs.TypeSpelling.{Tokens}
use Rattle.js_grammar.specs.Nesting.{WithinLimit}
use Rattle.js_grammar.specs.Items.{Module, spell_module, FitsModule}

-- the tokens are the spelling of this module
abbrev pub Spells : Module → Tokens → Type 0
Spells m l = FitsModule m × (spell_module m ≡ l)

-- the tokens nest within the limit, and begin the spelling of a module
abbrev pub Begins : Tokens → Type 0
Begins q = WithinLimit q × ((m : Module) × (rest : Tokens) × Spells m (q ++ rest))

-- a module, or the place of a fault
pub data Answer : Type 0 where
  whole : Module → Answer
  fault : ℕ → Answer

-- The module whose spelling the tokens are, and they nest within the limit. Or the place up to which they begin a spelling:
-- with the token there they don't, or there is none and they are no spelling.
abbrev pub Answers : Tokens → Answer → Type 0
Answers l (whole m) = WithinLimit l × Spells m l
Answers l (fault k) = (k ≤ length l) × Begins (take k l) × (k < length l → Begins (take (k + 1) l) → ⊥) × (k ≡ length l → (m : Module) → Spells m l → ⊥)

-- each list of tokens has an answer, and one only
abbrev pub EachHasAnswer : Type 0
EachHasAnswer = (l : Tokens) → (a : Answer) × Answers l a

abbrev pub OneAnswer : Type 0
OneAnswer = (l : Tokens) (a b : Answer) → Answers l a → Answers l b → a ≡ b
