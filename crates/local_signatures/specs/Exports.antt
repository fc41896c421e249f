-- What a module exports, in its own terms.
use Rattle.std.specs.Prelude.{ℕ, suc, Bool, true, false, List, [], ◌∷◌, ◌++◌, map, Option, Some, None, unwrap_or}
use Rattle.std.specs.List.{flat_map}
use Rattle.check_values.specs.Rows.{Bytes, Rows, row_at, by_name}
use Rattle.check_values.specs.declared.signatures.Origin.{Origin}
use Rattle.check_values.specs.declared.signatures.Origin.TheVariants as origin
use Rattle.js_grammar.specs.Code.{Function, function, Declaration, declaration}
use Rattle.js_grammar.specs.Items.{AliasOf, alias, exported, Exporteds, no_exported, more_exported, ExportList, export_list, ExportForm, export_declaration, export_function, export_alias, export_names, export_from, export_default_function, export_default, ItemForm, exports, Item, item, Module}
use Rattle.type_values.specs.declared.types.FlowType.{FlowType}
use Rattle.type_values.specs.declared.types.FlowType as made
use Rattle.type_names.specs.Names.{names_in}
use Rattle.local_signatures.specs.Scope.{Binding, bound_import, bound_variable, bound_function, bound_alias, Scope, scope_of, items_in, default_name, local_name}
use Rattle.local_signatures.specs.Boundary.{boundary_value, boundary_function, boundary_declaration}

-- what a module tells of one of its exports
pub data Told : Type 0 where
  -- a value: its type where the boundary tells one, and the tokens at which it is a fault that it tells none
  told_value : Option FlowType → ℕ → ℕ → Told
  -- an alias of the module
  told_alias : Bytes → Told
  -- an import: its local name, the specifier, the name there, and whether it is a type
  told_import : Bytes → Bytes → Bytes → Bool → Told
  -- an export of another module: the specifier, the name there, and whether it is a type
  told_elsewhere : Bytes → Bytes → Bool → Told
  -- no binding, or one of the other kind
  told_nothing : Told

-- a variable, at its name
abbrev pub told_variable : Scope → Declaration → Told
told_variable scope (declaration first end binder word annotation e) =
    told_value (boundary_declaration (local_name scope) (declaration first end binder word annotation e)) (suc first) (suc (suc first))

-- a function, at its name; one that has none at the tokens from one place to another
abbrev pub told_function : Scope → ℕ → ℕ → Function → Told
told_function scope from to (function first end None signature body) =
    told_value (boundary_function (local_name scope) (function first end None signature body)) from to
told_function scope from to (function first end (Some word) signature body) =
    told_value (boundary_function (local_name scope) (function first end (Some word) signature body)) (suc first) (suc (suc first))

-- what a name stands for that is exported as a type or as a value
abbrev pub told_binding : Scope → Bool → Bytes → Option Binding → Told
told_binding scope false word (Some (bound_variable d)) = told_variable scope d
told_binding scope false word (Some (bound_function f)) = told_function scope 0 0 f
told_binding scope false word (Some (bound_import spec outer false)) = told_import word spec outer false
told_binding scope true word (Some (bound_import spec outer true)) = told_import word spec outer true
told_binding scope true word (Some (bound_alias t)) = told_alias word
told_binding scope is_type word other = told_nothing

-- what a name of the scope stands for that is exported as a type or as a value
abbrev pub told_name : Scope → Bool → Bytes → Told
told_name scope is_type word = told_binding scope is_type word (row_at scope word)

-- each name in the braces of an export; tells says what the first word of each stands for
abbrev pub told_listed : (Bytes → Told) → Exporteds → Rows Told
told_listed tells no_exported = []
told_listed tells (more_exported before (exported first end word renamed)) =
    told_listed tells before ++ ((unwrap_or renamed word, tells word) ∷ [])

-- and so for a whole list in braces
abbrev pub told_list : (Bytes → Told) → ExportList → Rows Told
told_list tells (export_list first end names trailing) = told_listed tells names

abbrev pub declared_name : Declaration → Bytes
declared_name (declaration first end binder word annotation e) = word

-- a function's name; one that has none is exported as `default`
abbrev pub function_name : Function → Bytes
function_name (function first end word signature body) = unwrap_or word default_name

abbrev pub alias_name : AliasOf → Bytes
alias_name (alias first end word t) = word

-- what an export from one place to another tells; an alias is what its name stands for as a type
abbrev pub told_by_export : Scope → ℕ → ℕ → ExportForm → Rows Told
told_by_export scope from to (export_declaration d) = (declared_name d, told_variable scope d) ∷ []
told_by_export scope from to (export_function f) = (function_name f, told_function scope from to f) ∷ []
told_by_export scope from to (export_alias a) = (alias_name a, told_name scope true (alias_name a)) ∷ []
told_by_export scope from to (export_names is_type names) = told_list (told_name scope is_type) names
told_by_export scope from to (export_from is_type names spec) = told_list (λ word. told_elsewhere spec word is_type) names
told_by_export scope from to (export_default_function f) = (default_name, told_function scope from to f) ∷ []
told_by_export scope from to (export_default e) = (default_name, told_value (boundary_value (local_name scope) e) from to) ∷ []

-- what an item whose tokens stand from one place to another exports
abbrev pub told_by_form : Scope → ℕ → ℕ → ItemForm → Rows Told
told_by_form scope from to (exports form) = told_by_export scope from to form
told_by_form scope from to form = []

-- what an item exports
abbrev pub told_by : Scope → Item → Rows Told
told_by scope (item first end form) = told_by_form scope first end form

-- the exports of a module in order of their names; of two of one name the first counts
abbrev pub told_in : Module → Rows Told
told_in m = by_name (flat_map (told_by (scope_of m)) (items_in m))

-- a value that tells no type is `any`
abbrev pub origin_of : Told → Origin
origin_of (told_value t from to) = origin.Value (unwrap_or t made.Any)
origin_of (told_alias word) = origin.Alias word
origin_of (told_import local spec outer is_type) = origin.Import spec outer is_type
origin_of (told_elsewhere spec outer is_type) = origin.Import spec outer is_type
origin_of told_nothing = origin.Unknown

-- the names of the module that an export leads to
abbrev pub led_to : Told → List Bytes
led_to (told_value None from to) = []
led_to (told_value (Some t) from to) = map (λ n. n.1) (names_in t)
led_to (told_alias word) = word ∷ []
led_to (told_import local spec outer is_type) = local ∷ []
led_to (told_elsewhere spec outer is_type) = []
led_to told_nothing = []
