-- Reading a module within the limit of nesting: the token that would pass it is a fault.
use Rattle.std.specs.Prelude.{◌≡◌, ℕ, suc, [], ◌∷◌, ◌++◌, if◌then◌else◌}
use Rattle.js_grammar.specs.TypeSpelling.{Tokens}
use Rattle.js_grammar.specs.Nesting.{Nest, nest, no_nest, is_deep, WithinLimit}
use Rattle.js_grammar.specs.Machine.{end_mark}
use Rattle.js_grammar.specs.Items.{no_item, Module}
use Rattle.code_law.specs.Frames.{Mode, items_start, Stack}
use Rattle.code_law.specs.Machine.{step, Outcome, faulty, whole, whole_items, resume}
use Rattle.code_law.specs.Reads.{Spells, Begins, module_with, items_of}

-- reading from a state on, up to the limit
abbrev pub run_within : ℕ → Nest → Stack → Mode → Tokens → Outcome
run_within i n k m [] = resume (λ k m. faulty []) (step i k m end_mark) []
run_within i n k m (x ∷ l) = if is_deep (nest n x) then faulty (x ∷ l) else resume (λ k m. run_within (suc i) (nest n x) k m l) (step i k m x) (x ∷ l)

-- reading of a module, up to the limit
abbrev pub read_within : Tokens → Outcome
read_within l = run_within 0 no_nest [] (items_start no_item) l

-- the tokens begin the spelling of a module, and nest within the limit
abbrev pub BeginsWithin : Tokens → Type 0
BeginsWithin q = WithinLimit q × Begins q

-- reading goes no further than q: the tokens end there and are no module, or with the next one they begin none within the limit
abbrev pub IsStuckWithin : Tokens → Tokens → Type 0
IsStuckWithin q [] = (m : Module) → Spells m q → ⊥
IsStuckWithin q (x ∷ rest) = BeginsWithin (q ++ x ∷ []) → ⊥

-- the fault stands before the rest of the tokens
abbrev pub IsFaultWithin : Tokens → Tokens → Type 0
IsFaultWithin l rest = (q : Tokens) × (l ≡ q ++ rest) × BeginsWithin q × IsStuckWithin q rest

-- what an outcome says of the tokens; one that stops before the end is a fault
abbrev pub SaysWithin : Tokens → Outcome → Type 0
SaysWithin l (whole_items is []) = WithinLimit l × Spells (module_with is) l
SaysWithin l (whole_items is (x ∷ rest)) = IsFaultWithin l (x ∷ rest)
SaysWithin l (faulty rest) = IsFaultWithin l rest
SaysWithin l (whole e rest) = ⊥

-- a module is read where one stands that nests within the limit, and it is that one
abbrev pub ReadsEachWithin : Type 0
ReadsEachWithin = (m : Module) (l : Tokens) → WithinLimit l → Spells m l → read_within l ≡ whole_items (items_of m) []

-- where none stands, reading tells the place of the fault
abbrev pub ReadsOnlyWithin : Type 0
ReadsOnlyWithin = (l : Tokens) → SaysWithin l (read_within l)
