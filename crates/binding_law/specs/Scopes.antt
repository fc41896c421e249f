-- The scopes in which the parts of a piece of code are read, and which variable a name means there.
use Rattle.std.specs.Prelude.{◌≡◌, ◌↔◌, ℕ, suc, Bool, true, false, List, [], ◌∷◌, length, Option, Some, None, Contains, if◌then◌else◌}
use Rattle.std.specs.List.{filter_map}
use Rattle.std.specs.Str.{bytes_eq}
use Rattle.js_grammar.specs.Code.{Ex, ex, function_ex, arrow, function, Sig, arrow_block, arrow_value, block, Stmts, more_stmt, stmt, StmtForm}
use Rattle.js_grammar.specs.Items.{ItemForm, item, Items, more_item, Module}
use Rattle.check_values.specs.Rows.{Bytes, is_among}
use Rattle.type_values.specs.declared.types.FlowType.{FlowType}
use Rattle.flow_facts.specs.Known.{Known}
use Rattle.typing.specs.Names.{Kind, changing, shared, Binding, Scope, binding_of, variable_of, meaning_of, number_of, numbers_of}
use Rattle.typing.specs.Changes.{changes_of_ex, changes_of_stmts, variable_set}
use Rattle.typing.specs.States.{World, Notes, Now, Env, now_of, leave}
use Rattle.typing.specs.Functions.{none_bound, bind_sig, bind_stmts, enter_block, own_scope, result_of, body_env, ended}
use Rattle.typing.specs.Typing.{made_from, read, read_function, read_arrow, read_stmts, read_stmt, read_block}
use Rattle.typing.specs.Statements.{returned_value}
use Rattle.module_errors.specs.Program.{Program}
use Rattle.module_errors.specs.Items.{read_item_form, read_items}
use Rattle.module_errors.specs.Errors.{top_env}
use Rattle.binding_law.specs.Pieces.{Piece, an_expression, a_function, a_block, a_list, a_statement, the_items, in_item, parts, bound_by, changes_of}
use Rattle.binding_law.specs.Ways.{Way, arrived, into, bound_on, enters_function, IsAssignment}

-- ---- where a part is read

-- the scope of a body with these parameters, in which these statements stand
abbrev pub IsBody : World → Sig → Stmts → Scope → Scope → Type 0
IsBody w s ss outer inner =
    (facts : Known) × (notes : Notes)
    × (inner ≡ (body_env w s outer facts (bind_stmts w (suc outer.depth) (changes_of_stmts ss) ss (bind_sig w (suc outer.depth) (changes_of_stmts ss) s (none_bound notes)))).scope)

-- The piece is read in the outer scope, and this part of it in the inner one. Of a list, what stands last is read behind the others,
-- whatever was known before them. All other parts are read in the scope of the piece.
abbrev pub IsEntered : World → Piece → Piece → Scope → Scope → Type 0
IsEntered w (an_expression (ex f t (function_ex (function ff ft own s b)))) q outer inner = inner ≡ own_scope w own (suc ff) s outer
IsEntered w (an_expression (ex f t (arrow s (arrow_block (block bf bt ss))))) q outer inner = IsBody w s ss outer inner
IsEntered w (an_expression (ex f t (arrow s (arrow_value e)))) q outer inner =
    (facts : Known) × (notes : Notes) × (inner ≡ (body_env w s outer facts (bind_sig w (suc outer.depth) (changes_of_ex e) s (none_bound notes))).scope)
IsEntered w (a_function (function f t own s (block bf bt ss))) q outer inner = IsBody w s ss outer inner
IsEntered w (a_block (block f t ss)) q outer inner = (env : Env) × (env.scope ≡ outer) × (inner ≡ (enter_block w (changes_of_stmts ss) ss env).scope)
IsEntered w (a_list (more_stmt ss s)) (a_statement q) outer inner = (env : Env) × (env.scope ≡ outer) × (inner ≡ (read_stmts w ss env).scope)
IsEntered w (the_items is) (the_items before) outer inner = inner ≡ outer
IsEntered w (the_items (more_item is i)) q outer inner = (p : Program) × (m : Module) × (env : Env) × (env.scope ≡ outer) × (inner ≡ (read_items w p m is env).scope)
IsEntered w p q outer inner = inner ≡ outer

-- the way begins in the outer scope and ends in the inner one
abbrev pub IsReadAlong : {p end : Piece} → World → Way p end → Scope → Scope → Type 0
IsReadAlong w (arrived p) outer inner = inner ≡ outer
IsReadAlong w (into p q end part way) outer inner = (between : Scope) × IsEntered w p q outer between × IsReadAlong w way between inner

-- So they are read: a function, an arrow, a block, and what stands last in a list.
pub record PartsAreRead : Type 0 where
  pub functions : (w : World) (is_expression : Bool) (f t : ℕ) (own : Option Bytes) (s : Sig) (bf bt : ℕ) (ss : Stmts) (scope : Scope) (now : Now)
      → (start : Env) × IsEntered w (a_function (function f t own s (block bf bt ss))) (a_list ss) (if is_expression then own_scope w own (suc f) s scope else scope) start.scope
      × (read_function w is_expression (function f t own s (block bf bt ss)) scope now ≡ made_from w s now (ended w s (read_stmts w ss start)))
  pub arrows : (w : World) (f t : ℕ) (s : Sig) (bf bt : ℕ) (ss : Stmts) (scope : Scope) (now : Now)
      → (start : Env) × IsEntered w (an_expression (ex f t (arrow s (arrow_block (block bf bt ss))))) (a_list ss) scope start.scope
      × (read_arrow w s (arrow_block (block bf bt ss)) scope now ≡ made_from w s now (ended w s (read_stmts w ss start)))
  pub values : (w : World) (f t : ℕ) (s : Sig) (e : Ex) (scope : Scope) (now : Now)
      → (start : Env) × IsEntered w (an_expression (ex f t (arrow s (arrow_value e)))) (an_expression e) scope start.scope
      × (read_arrow w s (arrow_value e) scope now ≡ made_from w s now (returned_value (read w e start.scope (result_of w s) (now_of start)) start))
  pub blocks : (w : World) (f t : ℕ) (ss : Stmts) (env : Env)
      → (start : Env) × IsEntered w (a_block (block f t ss)) (a_list ss) env.scope start.scope × (read_block w (block f t ss) env ≡ leave env (read_stmts w ss start))
  pub lists : (w : World) (ss : Stmts) (f t : ℕ) (form : StmtForm) (env : Env)
      → (start : Env) × IsEntered w (a_list (more_stmt ss (stmt f t form))) (a_statement (stmt f t form)) env.scope start.scope
      × (read_stmts w (more_stmt ss (stmt f t form)) env ≡ read_stmt w f t form start)
  pub items : (w : World) (p : Program) (m : Module) (is : Items) (f t : ℕ) (form : ItemForm) (q : Piece) (env : Env) → Contains (in_item form) q
      → (start : Env) × IsEntered w (the_items (more_item is (item f t form))) q env.scope start.scope
      × (read_items w p m (more_item is (item f t form)) env ≡ read_item_form w p m f t form start)

-- ---- one variable

-- How many names stand behind the innermost binding of a name. Scopes grow in front, so that it tells the binding wherever it is seen.
abbrev pub place_of : List Binding → Bytes → Option ℕ
place_of [] name = None
place_of (b ∷ names) name = if bytes_eq b.name name then Some (length names) else place_of names name

-- the name has one binding in both scopes, or none in both
abbrev pub FindsSame : Bytes → Scope → Scope → Type 0
FindsSame name outer inner = place_of inner.names name ≡ place_of outer.names name

-- Along a way a name goes on to mean the same exactly where nothing on the way binds it.
abbrev pub FindsSameUnlessBound : Type 0
FindsSameUnlessBound =
    (w : World) (p end : Piece) (way : Way p end) (outer inner : Scope) (name : Bytes) → IsReadAlong w way outer inner
    → (is_among (bound_on way) name ≡ false) ↔ FindsSame name outer inner

-- And then the variable that it means has the same number.
abbrev pub MeansSameUnlessBound : Type 0
MeansSameUnlessBound =
    (w : World) (p end : Piece) (way : Way p end) (outer inner : Scope) (name : Bytes) (b : Binding) (t : FlowType) → IsReadAlong w way outer inner
    → FindsSame name outer inner → meaning_of outer name ≡ variable_of b t
    → (c : Binding) × (u : FlowType) × (meaning_of inner name ≡ variable_of c u) × (c.number ≡ b.number)

-- In the piece, which is read in this scope, stands an assignment to the name, in a function inside (true) or outside of them, that
-- finds there what the name means in the scope.
pub record IsFound (w : World) (inner : Bool) (name : Bytes) (p : Piece) (outer : Scope) : Type 0 where
  pub place : Piece
  pub way : Way p place
  pub assignment : IsAssignment name place
  pub inside : enters_function way ≡ inner
  pub scope : Scope
  pub read : IsReadAlong w way outer scope
  pub same : FindsSame name outer scope

-- ---- what is done by names

-- the kinds of parameters and `let`s
abbrev pub is_variable : Kind → Bool
is_variable changing = true
is_variable shared = true
is_variable kind = false

-- A parameter or `let` has no facts exactly where an assignment in a function inside its scope's function finds it: that of a block, a
-- function or an arrow, and that of a module.
pub record SharedIsAssignedInside : Type 0 where
  pub inner : (w : World) (p q : Piece) (outer scope : Scope) (name : Bytes) (b : Binding) → Contains (parts p) q → IsEntered w p q outer scope → is_among (bound_by p) name ≡ true
      → binding_of scope.names name ≡ Some b → is_variable b.kind ≡ true → (b.kind ≡ shared) ↔ IsFound w true name q scope
  pub top : (w : World) (p : Program) (is : Items) (name : Bytes) (b : Binding) → binding_of (top_env w p is).scope.names name ≡ Some b → is_variable b.kind ≡ true
      → (b.kind ≡ shared) ↔ IsFound w true name (the_items is) (top_env w p is).scope

-- The numbers of the variables that a piece may change are those that some assignment in it finds.
abbrev pub NumbersAreAssigned : Type 0
NumbersAreAssigned =
    (w : World) (p : Piece) (outer : Scope) (number : ℕ)
    → Contains (numbers_of outer (filter_map variable_set (changes_of p))) number
    ↔ ((name : Bytes) × (inner : Bool) × (number_of outer name ≡ Some number) × IsFound w inner name p outer)
