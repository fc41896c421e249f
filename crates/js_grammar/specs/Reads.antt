-- What reading a type from the front of a list of tokens answers: by the existence of trees.
use Rattle.std.specs.Prelude.{◌≡◌, ℕ, Bool, true, [], ◌++◌}
use Rattle.js_grammar.specs.Types.{Ty, has_fun}
use Rattle.js_grammar.specs.TypeSpelling.{Tokens, spell}
use Rattle.js_grammar.specs.TypeFits.{Fits}
use Rattle.js_grammar.specs.Nesting.{WithinLimit}

-- a type whose first token stands at a place; where `plain` is false, no function type outside brackets
abbrev pub IsType : Bool → ℕ → Ty → Type 0
IsType plain i t = Fits t i × (has_fun t ≡ true → plain ≡ true)

-- the tokens begin the spelling of a type
abbrev pub Begins : Bool → ℕ → Tokens → Type 0
Begins plain i q = (t : Ty) × IsType plain i t × (w : Tokens) × (spell t [] ≡ q ++ w)

-- they do, and nest within the limit
abbrev pub BeginsWithin : Bool → ℕ → Tokens → Type 0
BeginsWithin plain i q = WithinLimit q × Begins plain i q

-- no more of the tokens than q do, where rest comes after q
abbrev pub IsGreatest : Bool → ℕ → Tokens → Tokens → Type 0
IsGreatest plain i q rest = BeginsWithin plain i q × ((m n : Tokens) → rest ≡ m ++ n → BeginsWithin plain i (q ++ m) → m ≡ [])

-- the tokens of a type stand at the front, and no more of them begin one
abbrev pub Finds : Bool → ℕ → Tokens → Ty → Tokens → Type 0
Finds plain i l t rest = IsType plain i t × (l ≡ spell t rest) × IsGreatest plain i (spell t []) rest

-- as many of the tokens as begin a type are none
abbrev pub Faults : Bool → ℕ → Tokens → Tokens → Type 0
Faults plain i l rest = (q : Tokens) × (l ≡ q ++ rest) × IsGreatest plain i q rest × ((t : Ty) → IsType plain i t → spell t [] ≡ q → ⊥)
