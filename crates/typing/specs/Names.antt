-- Names: what they are bound to, and how they are found.
use Rattle.std.specs.Prelude.{ℕ, ◌+◌, ◌==◌, ◌||◌, nat_lt, Bool, true, false, List, [], ◌∷◌, map, Option, Some, None, if◌then◌else◌, codes}
use Rattle.std.specs.List.{filter_map}
use Rattle.std.specs.Option.{is_some}
use Rattle.std.specs.Str.{bytes_eq}
use Rattle.js_grammar.specs.Code.{Binder, const, let_word}
use Rattle.check_values.specs.Rows.{Bytes}
use Rattle.check_values.specs.declared.codes.Code.{Code}
use Rattle.check_values.specs.declared.codes.Code.TheVariants.{CannotResolveName, ReferenceBeforeDeclaration, TypeAsValue}
use Rattle.type_values.specs.declared.types.FlowType.{FlowType}
use Rattle.type_values.specs.declared.types.FlowType as made
use Rattle.flow_facts.specs.Known.{numbered}

-- what a name is, which tells whether it may be assigned and has facts
pub data Kind : Type 0 where
  -- an import, a function, a `const`, or a name of the prelude
  constant : Kind
  -- a `let` or a parameter
  changing : Kind
  -- one that is assigned in a function inside its own: it has no facts, nor have its properties
  shared : Kind
  -- a type, which is no value
  type_name : Kind

-- A name of a scope. Its number names its place in the facts; its depth is how many functions stand round its scope; its type is
-- known once its declaration was read, and before where it is annotated.
pub record Binding : Type 0 where
  pub name : Bytes
  pub number : ℕ
  pub kind : Kind
  pub depth : ℕ
  pub is_read : Bool
  pub declared : Option FlowType

-- The names that are seen, the innermost first; how many functions stand around; and what the function around is to return.
pub record Scope : Type 0 where
  pub names : List Binding
  pub depth : ℕ
  pub result : Option FlowType

-- what a name means in an expression: a variable and its declared type, or a fault
pub data Meaning : Type 0 where
  variable_of : Binding → FlowType → Meaning
  no_variable : Code → Meaning

abbrev pub is_const : Binder → Bool
is_const const = true
is_const let_word = false

-- A name of the prelude is one of the first variables, and each other one a variable by the token where it is bound, constant (true)
-- or not.
abbrev pub number_at : Bool → ℕ → ℕ
number_at constantly token = numbered constantly (token + 5)

-- a name of the prelude, one of the first variables, and its type
abbrev pub prelude_name : Bytes → ℕ → FlowType → Binding
prelude_name name n t = record { name = name; number = numbered true n; kind = constant; depth = 0; is_read = true; declared = Some t }

-- the number of `undefined`
abbrev pub undefined_number : ℕ
undefined_number = numbered true 0

-- the names that every module knows
abbrev pub prelude : List Binding
prelude =
    prelude_name (codes "undefined") 0 made.Void ∷ prelude_name (codes "console") 1 made.Any
    ∷ prelude_name (codes "JSON") 2 made.Any ∷ prelude_name (codes "Math") 3 made.Any ∷ prelude_name (codes "Object") 4 made.Any ∷ []

-- the innermost binding of a name
abbrev pub binding_of : List Binding → Bytes → Option Binding
binding_of [] name = None
binding_of (b ∷ names) name = if bytes_eq b.name name then Some b else binding_of names name

-- the name is bound
abbrev pub binds : List Binding → Bytes → Bool
binds names name = is_some (binding_of names name)

-- Before the end of its declaration a name may be used where it is annotated, in a function inside its scope.
abbrev pub is_usable : ℕ → Binding → Bool
is_usable depth b = b.is_read || nat_lt b.depth depth

-- a name means a variable where its type is known and it may be used here
abbrev pub declared_meaning : ℕ → Binding → Option FlowType → Meaning
declared_meaning depth b None = no_variable ReferenceBeforeDeclaration
declared_meaning depth b (Some t) = if is_usable depth b then variable_of b t else no_variable ReferenceBeforeDeclaration

-- a type is no variable
abbrev pub meaning_by_kind : Kind → ℕ → Binding → Meaning
meaning_by_kind type_name depth b = no_variable TypeAsValue
meaning_by_kind kind depth b = declared_meaning depth b b.declared

-- what a name with this binding means, or with none
abbrev pub meaning_of_binding : ℕ → Option Binding → Meaning
meaning_of_binding depth None = no_variable CannotResolveName
meaning_of_binding depth (Some b) = meaning_by_kind b.kind depth b

-- what a name means in a scope
abbrev pub meaning_of : Scope → Bytes → Meaning
meaning_of scope name = meaning_of_binding scope.depth (binding_of scope.names name)

abbrev pub is_constant_kind : Kind → Bool
is_constant_kind constant = true
is_constant_kind kind = false

-- whether the places of such a name have facts
abbrev pub has_facts_kind : Kind → Bool
has_facts_kind constant = true
has_facts_kind changing = true
has_facts_kind kind = false

abbrev pub is_constant : Binding → Bool
is_constant b = is_constant_kind b.kind

abbrev pub has_facts : Binding → Bool
has_facts b = has_facts_kind b.kind

-- the declaration of a name was read, and this is its type
abbrev pub binding_read : ℕ → FlowType → Binding → Binding
binding_read number t b = if b.number == number then record b { is_read = true; declared = Some t } else b

-- the scope once the declaration of the name with this number was read
abbrev pub declares_type : ℕ → FlowType → Scope → Scope
declares_type number t scope = record scope { names = map (binding_read number t) scope.names }

-- the number of a name, where it is bound
abbrev pub number_of : Scope → Bytes → Option ℕ
number_of scope name = elim (binding_of scope.names name) [ None ↦ None | Some b ↦ Some b.number ]

-- the numbers of those names that are bound
abbrev pub numbers_of : Scope → List Bytes → List ℕ
numbers_of scope names = filter_map (number_of scope) names
