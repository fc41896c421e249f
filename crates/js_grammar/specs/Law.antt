-- The laws of spelling, of the places, and of reading a type.
use Rattle.std.specs.Prelude.{◌≡◌, ℕ, ◌+◌, ◌≤◌, Bool, [], length, drop}
use Rattle.js_grammar.specs.Types.{Ty, ty}
use Rattle.js_grammar.specs.TypeSpelling.{Tokens, spell}
use Rattle.js_grammar.specs.TypeFits.{Fits}
use Rattle.js_grammar.specs.Code.{ExForm, ex, StmtForm, stmt}
use Rattle.js_grammar.specs.CodeSpelling.{spell_ex_form, spell_stmt_form}
use Rattle.js_grammar.specs.CodeFits.{Context, FitsEx, FitsStmt}
use Rattle.js_grammar.specs.Items.{ItemForm, item, Items, module_of, spell_item_form, spell_module, FitsItem, FitsModule}
use Rattle.js_grammar.specs.GoesOn.{goes_on_type, IsEnded}
use Rattle.js_grammar.specs.Reads.{IsType, Finds, Faults}

-- two types of the grammar that begin at one place and have one spelling are equal
abbrev pub SameSpellingSameType : Type 0
SameSpellingSameType = (i : ℕ) (a b : Ty) → Fits a i → Fits b i → spell a [] ≡ spell b [] → a ≡ b

-- and so are two that stand in front of one list of tokens, where neither is gone on; where `plain` is false, of those without a
-- function type outside brackets
abbrev pub SameFrontSameType : Type 0
SameFrontSameType = (plain : Bool) (i : ℕ) (a b : Ty) → IsType plain i a → IsType plain i b → (m n : Tokens) → spell a m ≡ spell b n →
    IsEnded (goes_on_type plain) m → IsEnded (goes_on_type plain) n → a ≡ b

-- the place of a type's first token
abbrev pub first_place : Ty → ℕ
first_place (ty f t lead ps) = f

-- the place behind a type's last token
abbrev pub end_place : Ty → ℕ
end_place (ty f t lead ps) = t

-- a type ends as many places behind its first as its spelling has tokens
abbrev pub EndsBehindItsTokens : Type 0
EndsBehindItsTokens = (i : ℕ) (t : Ty) → Fits t i → (first_place t ≡ i) × (end_place t ≡ i + length (spell t []))

-- and so does an expression
abbrev pub ExpressionsEndBehindTheirTokens : Type 0
ExpressionsEndBehindTheirTokens = (i f t : ℕ) (x : ExForm) → FitsEx (ex f t x) i → (f ≡ i) × (t ≡ i + length (spell_ex_form x []))

-- and so does a statement
abbrev pub StatementsEndBehindTheirTokens : Type 0
StatementsEndBehindTheirTokens = (c : Context) (i f t : ℕ) (x : StmtForm) → FitsStmt (stmt f t x) c i → (f ≡ i) × (t ≡ i + length (spell_stmt_form x []))

-- and so does an item
abbrev pub ItemsEndBehindTheirTokens : Type 0
ItemsEndBehindTheirTokens = (i f t : ℕ) (x : ItemForm) → FitsItem (item f t x) i → (f ≡ i) × (t ≡ i + length (spell_item_form x []))

-- and a module, which begins at place 0
abbrev pub ModulesEndBehindTheirTokens : Type 0
ModulesEndBehindTheirTokens = (f t : ℕ) (is : Items) → FitsModule (module_of f t is) → (f ≡ 0) × (t ≡ length (spell_module (module_of f t is)))

-- what is read from a place on begins there, and ends where the rest begins
abbrev pub EndsWhereTheRestBegins : Type 0
EndsWhereTheRestBegins = (plain : Bool) (l : Tokens) (from end : ℕ) (t : Ty) → from ≤ end → end ≤ length l → Finds plain from (drop from l) t (drop end l) →
    (first_place t ≡ from) × (end_place t ≡ end)

-- Of one list of tokens there is one answer: one type and one rest, or one place of the fault.
abbrev pub FindsOneType : Type 0
FindsOneType = (plain : Bool) (i : ℕ) (l : Tokens) (t u : Ty) (r s : Tokens) → Finds plain i l t r → Finds plain i l u s → (t ≡ u) × (r ≡ s)

-- two faults of reading one list of tokens leave the same rest
abbrev pub FaultsAtOnePlace : Type 0
FaultsAtOnePlace = (plain : Bool) (i : ℕ) (l : Tokens) (r s : Tokens) → Faults plain i l r → Faults plain i l s → r ≡ s

-- where a type is found, there is no fault
abbrev pub FindsOrFaults : Type 0
FindsOrFaults = (plain : Bool) (i : ℕ) (l : Tokens) (t : Ty) (r s : Tokens) → Finds plain i l t r → Faults plain i l s → ⊥
