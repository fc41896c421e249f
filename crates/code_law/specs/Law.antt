-- The laws of spelling for expressions and modules.
use Rattle.std.specs.Prelude.{◌≡◌, ℕ, Bool, true, []}
use Rattle.js_grammar.specs.TypeSpelling.{Tokens}
use Rattle.js_grammar.specs.GoesOn.{IsEnded}
use Rattle.js_grammar.specs.Code.{Ex, Block, Stmt}
use Rattle.js_grammar.specs.CodeSpelling.{spell_ex, spell_block, spell_stmt}
use Rattle.js_grammar.specs.CodeFits.{inside, FitsEx, FitsBlock, FitsStmt}
use Rattle.js_grammar.specs.Items.{Module, spell_module, FitsModule}
use Rattle.code_law.specs.Statements.{is_else}
use Rattle.code_law.specs.GoesOn.{goes_on_expression}

-- two expressions that begin at one place and have one spelling are equal
abbrev pub SameSpellingSameExpression : Type 0
SameSpellingSameExpression = (i : ℕ) (a b : Ex) → FitsEx a i → FitsEx b i → spell_ex a [] ≡ spell_ex b [] → a ≡ b

-- and so are two that stand in front of one list of tokens, where neither is gone on
abbrev pub SameFrontSameExpression : Type 0
SameFrontSameExpression = (i : ℕ) (a b : Ex) → FitsEx a i → FitsEx b i → (m n : Tokens) → spell_ex a m ≡ spell_ex b n →
    IsEnded goes_on_expression m → IsEnded goes_on_expression n → a ≡ b

-- two blocks of a function, in a loop of it or not, that stand in front of one list of tokens are equal: no token goes on a block
abbrev pub SameFrontSameBlock : Type 0
SameFrontSameBlock = (in_loop : Bool) (i : ℕ) (a b : Block) → FitsBlock a (inside true in_loop) i → FitsBlock b (inside true in_loop) i → (m n : Tokens) →
    spell_block a m ≡ spell_block b n → a ≡ b

-- and so are two statements, where neither is followed by `else`, the one token that can go on a statement
abbrev pub SameFrontSameStatement : Type 0
SameFrontSameStatement = (in_loop : Bool) (i : ℕ) (a b : Stmt) → FitsStmt a (inside true in_loop) i → FitsStmt b (inside true in_loop) i → (m n : Tokens) →
    spell_stmt a m ≡ spell_stmt b n → IsEnded is_else m → IsEnded is_else n → a ≡ b

-- two modules that have one spelling are equal
abbrev pub SameSpellingSameModule : Type 0
SameSpellingSameModule = (a b : Module) → FitsModule a → FitsModule b → spell_module a ≡ spell_module b → a ≡ b
