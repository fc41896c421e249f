-- What reading a module answers: by the existence of trees.
use Rattle.std.specs.Prelude.{◌≡◌, [], ◌∷◌, ◌++◌}
use Rattle.js_grammar.specs.TypeSpelling.{Tokens}
use Rattle.js_grammar.specs.Items.{Items, Module, module_of, spell_module, stop_items, FitsModule}
use Rattle.code_law.specs.Machine.{Outcome, faulty, whole, whole_items, read_module}

-- the tokens are the module's spelling
abbrev pub Spells : Module → Tokens → Type 0
Spells m l = FitsModule m × (spell_module m ≡ l)

-- the tokens begin the spelling of a module
abbrev pub Begins : Tokens → Type 0
Begins q = (m : Module) × (w : Tokens) × Spells m (q ++ w)

-- reading goes no further than q: the tokens end there and are no module, or with the next one they begin none
abbrev pub IsStuck : Tokens → Tokens → Type 0
IsStuck q [] = (m : Module) → Spells m q → ⊥
IsStuck q (x ∷ rest) = Begins (q ++ x ∷ []) → ⊥

-- the fault stands before the rest of the tokens
abbrev pub IsFault : Tokens → Tokens → Type 0
IsFault l rest = (q : Tokens) × (l ≡ q ++ rest) × Begins q × IsStuck q rest

-- the module with these items
abbrev pub module_with : Items → Module
module_with is = module_of 0 (stop_items is 0) is

-- what an outcome says of the tokens; where it comes to whole items before the end, the next token is the end mark, and a fault
abbrev pub Says : Tokens → Outcome → Type 0
Says l (whole_items is []) = Spells (module_with is) l
Says l (whole_items is (x ∷ rest)) = IsFault l (x ∷ rest)
Says l (faulty rest) = IsFault l rest
Says l (whole e rest) = ⊥

-- the items of a module
abbrev pub items_of : Module → Items
items_of (module_of f t is) = is

-- a module is read where one stands, and it is that one
abbrev pub ReadsEachModule : Type 0
ReadsEachModule = (m : Module) (l : Tokens) → Spells m l → read_module l ≡ whole_items (items_of m) []

-- where none stands, reading tells the place of the fault
abbrev pub ReadsOnlyModules : Type 0
ReadsOnlyModules = (l : Tokens) → Says l (read_module l)
