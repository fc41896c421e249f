-- The number of a name tells whether it is constant, by which functions inside see the facts on constants alone.
use Rattle.std.specs.Prelude.{◌≡◌, ℕ, true, List, Option, Some, None, if◌then◌else◌}
use Rattle.std.specs.List.{AllByRecursion}
use Rattle.js_grammar.specs.Code.{Sig, Stmts}
use Rattle.js_grammar.specs.Items.{Items}
use Rattle.check_values.specs.Rows.{Bytes}
use Rattle.type_values.specs.declared.types.FlowType.{FlowType}
use Rattle.flow_facts.specs.Known.{Map, Known, is_constant_number, variable_place}
use Rattle.typing.specs.Changes.{Change}
use Rattle.typing.specs.Names.{Binding, Scope, is_constant, declares_type}
use Rattle.typing.specs.States.{World, Notes, Env}
use Rattle.typing.specs.Functions.{Bound, none_bound, bind_sig, bind_stmts, enter_block, own_scope, body_env, kept_facts}
use Rattle.module_errors.specs.Program.{Program}
use Rattle.module_errors.specs.Errors.{top_env}

-- the number of a name tells whether it is constant
abbrev pub Tells : Binding → Type 0
Tells b = is_constant_number b.number ≡ is_constant b

-- and so for each name of a list
abbrev pub AllTell : List Binding → Type 0
AllTell names = AllByRecursion Tells names

-- The scopes in which code is read: that of a module; where names tell by their numbers, that of a block, that round a named function,
-- and that of a body with its parameters; and each once the declaration of a name was read.
pub record EachNumberTells : Type 0 where
  pub top : (w : World) (p : Program) (is : Items) → AllTell (top_env w p is).scope.names
  pub block : (w : World) (changes : List Change) (ss : Stmts) (env : Env) → AllTell env.scope.names → AllTell (enter_block w changes ss env).scope.names
  pub own : (w : World) (name : Option Bytes) (token : ℕ) (s : Sig) (scope : Scope) → AllTell scope.names → AllTell (own_scope w name token s scope).names
  pub parameters : (w : World) (depth : ℕ) (changes : List Change) (s : Sig) (notes : Notes) → AllTell (bind_sig w depth changes s (none_bound notes)).names
  pub statements : (w : World) (depth : ℕ) (changes : List Change) (ss : Stmts) (bound : Bound) → AllTell bound.names → AllTell (bind_stmts w depth changes ss bound).names
  pub body : (w : World) (s : Sig) (scope : Scope) (facts : Known) (bound : Bound) → AllTell scope.names → AllTell bound.names → AllTell (body_env w s scope facts bound).scope.names
  pub declared : (number : ℕ) (t : FlowType) (scope : Scope) → AllTell scope.names → AllTell (declares_type number t scope).names

-- What an arrow or a function expression begins with: of a name that tells, its fact where it is constant, and none where it is not.
abbrev pub KeepsConstants : Type 0
KeepsConstants =
    (b : Binding) (m : Map) → Tells b
    → (kept : Map) × (kept_facts true (Some m) ≡ Some kept) × (kept (variable_place b.number) ≡ (if is_constant b then m (variable_place b.number) else None))
