-- Pieces of the grammar at their places, where a number tells a variable.
use Rattle.std.specs.Prelude.{◌≡◌, ◌↔◌, ℕ, true, Some, Contains}
use Rattle.js_grammar.specs.CodeFits.{Context, FitsEx, FitsFunction, FitsBlock, FitsStmts, FitsStmt, FitsSimple}
use Rattle.js_grammar.specs.Items.{Items, FitsItems}
use Rattle.check_values.specs.Rows.{Bytes, is_among}
use Rattle.typing.specs.Names.{shared, Binding, Scope, binding_of, number_of}
use Rattle.typing.specs.States.{World}
use Rattle.module_errors.specs.Program.{Program}
use Rattle.module_errors.specs.Errors.{top_env}
use Rattle.binding_law.specs.Pieces.{Piece, an_expression, a_function, a_block, a_list, a_statement, a_simple, the_items, parts, bound_by}
use Rattle.binding_law.specs.Ways.{Way, enters_function, IsAssignment}
use Rattle.binding_law.specs.Scopes.{IsEntered, IsReadAlong, FindsSame, is_variable}

-- the piece is of the grammar, and stands at this place
abbrev pub FitsAt : Piece → ℕ → Type 0
FitsAt (an_expression e) i = FitsEx e i
FitsAt (a_function f) i = FitsFunction f i
FitsAt (a_block b) i = (c : Context) × FitsBlock b c i
FitsAt (a_list ss) i = (c : Context) × FitsStmts ss c i
FitsAt (a_statement s) i = (c : Context) × FitsStmt s c i
FitsAt (a_simple s) i = (c : Context) × FitsSimple s c i
FitsAt (the_items is) i = FitsItems is i

-- In the grammar a number tells the variable: from the scope of a function, an arrow or a block, or of a module, to that in which
-- something inside is read, a name of the scope goes on to mean the same exactly where it has the same number.
pub record NumbersTellVariables : Type 0 where
  pub inner : (w : World) (p q end : Piece) (place : ℕ) (way : Way q end) (outer scope there : Scope) (name : Bytes) → FitsAt p place → Contains (parts p) q → IsEntered w p q outer scope
      → is_among (bound_by p) name ≡ true → IsReadAlong w way scope there → FindsSame name scope there ↔ (number_of there name ≡ number_of scope name)
  pub top : (w : World) (p : Program) (is : Items) (end : Piece) (way : Way (the_items is) end) (there : Scope) (name : Bytes) → FitsItems is 0 → IsReadAlong w way (top_env w p is).scope there
      → FindsSame name (top_env w p is).scope there ↔ (number_of there name ≡ number_of (top_env w p is).scope name)

-- In the piece, which is read in this scope, stands an assignment to the name in a function inside, and what the name means there has
-- this number.
pub record IsNumberAssigned (w : World) (number : ℕ) (name : Bytes) (p : Piece) (outer : Scope) : Type 0 where
  pub place : Piece
  pub way : Way p place
  pub assignment : IsAssignment name place
  pub inside : enters_function way ≡ true
  pub scope : Scope
  pub read : IsReadAlong w way outer scope
  pub finds : number_of scope name ≡ Some number

-- In the grammar a parameter or `let` has no facts exactly where an assignment in a function inside its scope's function finds its number.
pub record SharedNumbersAreAssigned : Type 0 where
  pub inner : (w : World) (p q : Piece) (place : ℕ) (outer scope : Scope) (name : Bytes) (b : Binding) → FitsAt p place → Contains (parts p) q → IsEntered w p q outer scope → is_among (bound_by p) name ≡ true
      → binding_of scope.names name ≡ Some b → is_variable b.kind ≡ true → (b.kind ≡ shared) ↔ IsNumberAssigned w b.number name q scope
  pub top : (w : World) (p : Program) (is : Items) (name : Bytes) (b : Binding) → FitsItems is 0 → binding_of (top_env w p is).scope.names name ≡ Some b → is_variable b.kind ≡ true
      → (b.kind ≡ shared) ↔ IsNumberAssigned w b.number name (the_items is) (top_env w p is).scope
