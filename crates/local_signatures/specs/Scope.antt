-- What the names of a module's top level are bound to.
use Rattle.std.specs.Prelude.{Bool, true, false, List, [], ◌∷◌, ◌++◌, Option, Some, None, unwrap_or, if◌then◌else◌, codes}
use Rattle.std.specs.List.{flat_map}
use Rattle.check_values.specs.Rows.{Bytes, Rows, row_at, first_of_each}
use Rattle.js_grammar.specs.Types.{Ty}
use Rattle.js_grammar.specs.Code.{Function, function, Declaration, declaration}
use Rattle.js_grammar.specs.Items.{Imported, imported, Importeds, no_imported, more_imported, ImportList, import_list, ImportForm, import_default, import_both, import_names, import_types, import_only, AliasOf, alias, ExportForm, export_declaration, export_function, export_alias, export_default_function, ItemForm, imports, exports, declares_item, function_item, alias_item, Item, item, Items, no_item, more_item, Module, module_of}
use Rattle.type_values.specs.declared.types.FlowType.{FlowType}
use Rattle.type_values.specs.declared.types.FlowType as made
use Rattle.tree_types.specs.TreeTypes.{type_of}

-- what a name of the top level is bound to
pub data Binding : Type 0 where
  -- a name of another module: the specifier, the name there, and whether it is a type
  bound_import : Bytes → Bytes → Bool → Binding
  bound_variable : Declaration → Binding
  bound_function : Function → Binding
  bound_alias : Ty → Binding

-- names and what they are bound to, in order
abbrev pub Scope : Type 0
Scope = Rows Binding

-- the items of a tree, in order
abbrev pub items_from : Items → List Item
items_from no_item = []
items_from (more_item before last) = items_from before ++ (last ∷ [])

-- the items of a module, in order
abbrev pub items_in : Module → List Item
items_in (module_of first end all) = items_from all

-- what is imported as a type or as a value from a specifier
abbrev pub bound_imported : Bool → Bytes → Imported → Scope
bound_imported is_type spec (imported first end outer local) = (local, bound_import spec (unwrap_or outer local) is_type) ∷ []

-- and so for each name of a list
abbrev pub bound_importeds : Bool → Bytes → Importeds → Scope
bound_importeds is_type spec no_imported = []
bound_importeds is_type spec (more_imported before last) = bound_importeds is_type spec before ++ bound_imported is_type spec last

-- and for a whole list in braces
abbrev pub bound_list : Bool → Bytes → ImportList → Scope
bound_list is_type spec (import_list first end names trailing) = bound_importeds is_type spec names

-- the name under which a default export stands
abbrev pub default_name : Bytes
default_name = codes "default"

-- the names that an import binds
abbrev pub bound_by_import : Bytes → ImportForm → Scope
bound_by_import spec (import_default local) = (local, bound_import spec default_name false) ∷ []
bound_by_import spec (import_both local names) = (local, bound_import spec default_name false) ∷ bound_list false spec names
bound_by_import spec (import_names names) = bound_list false spec names
bound_by_import spec (import_types names) = bound_list true spec names
bound_by_import spec import_only = []

-- the name that a variable's declaration binds
abbrev pub bound_by_declaration : Declaration → Scope
bound_by_declaration (declaration first end binder word annotation value) =
    (word, bound_variable (declaration first end binder word annotation value)) ∷ []

-- the name that a function's declaration binds, if it has one
abbrev pub bound_by_function : Function → Scope
bound_by_function (function first end None signature body) = []
bound_by_function (function first end (Some word) signature body) =
    (word, bound_function (function first end (Some word) signature body)) ∷ []

abbrev pub bound_by_alias : AliasOf → Scope
bound_by_alias (alias first end word t) = (word, bound_alias t) ∷ []

-- what is declared behind `export` is bound as without it; nothing else that is exported is
abbrev pub bound_by_export : ExportForm → Scope
bound_by_export (export_declaration d) = bound_by_declaration d
bound_by_export (export_function f) = bound_by_function f
bound_by_export (export_alias a) = bound_by_alias a
bound_by_export (export_default_function f) = bound_by_function f
bound_by_export form = []

-- the names that an item binds
abbrev pub bound_by_form : ItemForm → Scope
bound_by_form (imports form spec) = bound_by_import spec form
bound_by_form (exports form) = bound_by_export form
bound_by_form (declares_item d) = bound_by_declaration d
bound_by_form (function_item f) = bound_by_function f
bound_by_form (alias_item a) = bound_by_alias a
bound_by_form form = []

abbrev pub bound_by : Item → Scope
bound_by (item first end form) = bound_by_form form

-- every binding of the top level, in order
abbrev pub bindings : Module → Scope
bindings m = flat_map bound_by (items_in m)

-- the scope of the top level: of the bindings of one name the first counts
abbrev pub scope_of : Module → Scope
scope_of m = first_of_each (bindings m)

-- what a name stands for as a type is an alias, or a type import
abbrev pub names_type : Option Binding → Bool
names_type (Some (bound_alias t)) = true
names_type (Some (bound_import spec outer is_type)) = is_type
names_type other = false

-- the module of each name in a local signature's types
abbrev pub own_path : Bytes
own_path = codes "self.js/self.js"

-- a name as a type of its own module: an alias or a type import under that name, or else `any`
abbrev pub local_name : Scope → Bytes → FlowType
local_name scope word = if names_type (row_at scope word) then made.Ref own_path word else made.Any

-- the type of a tree in a module
abbrev pub local_type : Scope → Ty → FlowType
local_type scope t = type_of (local_name scope) t
