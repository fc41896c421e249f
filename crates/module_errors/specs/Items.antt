-- How the items of a module are read.
use Rattle.std.specs.Prelude.{ℕ, suc, ◌-◌, ◌==◌, ◌&&◌, Bool, true, false, Option, Some, None, unwrap_or, if◌then◌else◌}
use Rattle.js_grammar.specs.Code.{Function, simple}
use Rattle.js_grammar.specs.Items.{imported, Importeds, no_imported, more_imported, ImportList, import_list, ImportForm, import_default, import_both, import_names, import_types, import_only, AliasOf, alias, exported, Exporteds, no_exported, more_exported, ExportList, export_list, ExportForm, export_declaration, export_function, export_alias, export_names, export_from, export_default_function, export_default, ItemForm, imports, exports, declares_item, function_item, alias_item, does_item, Item, item, Items, no_item, more_item, Module}
use Rattle.check_values.specs.Rows.{Bytes, row_at}
use Rattle.check_values.specs.declared.codes.Code.{Code}
use Rattle.check_values.specs.declared.codes.Code.TheVariants.{CannotResolveModule, CannotResolveName, RecursiveAlias, TypeAsValue, ValueAsType}
use Rattle.type_values.specs.declared.types.FlowType.{FlowType, out-FlowType}
use Rattle.type_values.specs.declared.types.FlowType.TheOpen.{FlowType-F, Ref}
use Rattle.type_terms.specs.Show.{quoted}
use Rattle.type_names.specs.Names.{Name}
use Rattle.local_signatures.specs.Scope as home
use Rattle.local_signatures.specs.Scope.{bound_import, bound_alias, scope_of, default_name}
use Rattle.merged_signatures.specs.Chains.{found}
use Rattle.typing.specs.Names.{Binding, Scope, number_at, binding_of}
use Rattle.typing.specs.States.{World, Notes, Env, after, now_of, with_now, fault_at, name_fault}
use Rattle.typing.specs.TypeFaults.{type_meant, type_read}
use Rattle.typing.specs.Typing.{read, read_function, read_declaration, read_simple}
use Rattle.module_errors.specs.Program.{Program, said, wrong_import}

-- ---- imports

-- a specifier at a token, by the module that it finds
abbrev pub specifier_found : World → ℕ → Bytes → Option Bytes → Notes → Notes
specifier_found w token spec None notes = name_fault (fault_at w token (suc token) CannotResolveModule (quoted spec)) notes
specifier_found w token spec (Some path) notes = notes

-- a specifier at a token, by the dependency list
abbrev pub specifier_read : World → Program → ℕ → Bytes → Notes → Notes
specifier_read w p token spec notes = specifier_found w token spec (found p.deps spec) notes

-- a name at a token is a fault, if anything is wrong with it
abbrev pub wrong_at : World → ℕ → Bytes → Option Code → Notes → Notes
wrong_at w token name None notes = notes
wrong_at w token name (Some code) notes = name_fault (fault_at w token (suc token) code name) notes

-- a name of another module, at a token
abbrev pub imported_read : World → Program → Bool → Bytes → ℕ → Bytes → Notes → Notes
imported_read w p is_type spec token name notes = wrong_at w token name (wrong_import is_type (said p spec name)) notes

-- the imported names of a list, each at its first word
abbrev pub importeds_read : World → Program → Bool → Bytes → Importeds → Notes → Notes
importeds_read w p is_type spec no_imported notes = notes
importeds_read w p is_type spec (more_imported ns (imported f t outer name)) notes =
    imported_read w p is_type spec f (unwrap_or outer name) (importeds_read w p is_type spec ns notes)

-- and so for a whole list in braces
abbrev pub list_read : World → Program → Bool → Bytes → ImportList → Notes → Notes
list_read w p is_type spec (import_list f t ns comma) notes = importeds_read w p is_type spec ns notes

-- the names of an import that begins at a token
abbrev pub import_read : World → Program → ℕ → Bytes → ImportForm → Notes → Notes
import_read w p f spec (import_default name) notes = imported_read w p false spec (suc f) default_name notes
import_read w p f spec (import_both name ns) notes =
    list_read w p false spec ns (imported_read w p false spec (suc f) default_name notes)
import_read w p f spec (import_names ns) notes = list_read w p false spec ns notes
import_read w p f spec (import_types ns) notes = list_read w p true spec ns notes
import_read w p f spec import_only notes = notes

-- ---- exports

-- what is wrong with exporting a binding as a type (true) or as a value
abbrev pub wrong_export : Bool → Option home.Binding → Option Code
wrong_export is_type None = Some CannotResolveName
wrong_export false (Some (bound_alias t)) = Some TypeAsValue
wrong_export false (Some (bound_import spec outer true)) = Some TypeAsValue
wrong_export false (Some other) = None
wrong_export true (Some (bound_alias t)) = None
wrong_export true (Some (bound_import spec outer true)) = None
wrong_export true (Some other) = Some ValueAsType

-- the names of a list that the module exports of its own, each at its first word
abbrev pub exporteds_read : World → home.Scope → Bool → Exporteds → Notes → Notes
exporteds_read w top is_type no_exported notes = notes
exporteds_read w top is_type (more_exported ns (exported f t name renamed)) notes =
    wrong_at w f name (wrong_export is_type (row_at top name)) (exporteds_read w top is_type ns notes)

-- and so for a whole list in braces
abbrev pub exports_read : World → home.Scope → Bool → ExportList → Notes → Notes
exports_read w top is_type (export_list f t ns comma) notes = exporteds_read w top is_type ns notes

-- the names of a list that the module exports of another one, each at its first word
abbrev pub handed_on : World → Program → Bool → Bytes → Exporteds → Notes → Notes
handed_on w p is_type spec no_exported notes = notes
handed_on w p is_type spec (more_exported ns (exported f t name renamed)) notes =
    imported_read w p is_type spec f name (handed_on w p is_type spec ns notes)

-- and so for a whole list in braces
abbrev pub list_handed_on : World → Program → Bool → Bytes → ExportList → Notes → Notes
list_handed_on w p is_type spec (export_list f t ns comma) notes = handed_on w p is_type spec ns notes

-- ---- aliases

-- the binding is the alias that stands at this token
abbrev pub is_bound_at : ℕ → Option Binding → Bool
is_bound_at token None = false
is_bound_at token (Some b) = b.number == number_at false token

-- the outermost level of a type is a name that lies on a cycle
abbrev pub level_on_cycle : {A B C : Type 0} → (Name → Bool) → FlowType-F A B C → Bool
level_on_cycle is_cyclic (Ref home name) = is_cyclic (home, name)
level_on_cycle is_cyclic level = false

-- the type is a name that lies on a cycle
abbrev pub is_on_cycle : (Name → Bool) → FlowType → Bool
is_on_cycle is_cyclic t = level_on_cycle is_cyclic (out-FlowType t)

-- an alias that counts and whose name lies on a cycle is a fault; the names in every alias's type are read
abbrev pub alias_read : World → Program → Scope → AliasOf → Notes → Notes
alias_read w p scope (alias f t name v) notes =
    type_read w v
    (if is_bound_at (suc f) (binding_of scope.names name) && is_on_cycle p.is_cyclic (type_meant (w.type_meaning name))
    then name_fault (fault_at w (suc f) (suc (suc f)) RecursiveAlias name) notes
    else notes)

-- ---- items

-- a function of the top level
abbrev pub read_top_function : World → Function → Env → Env
read_top_function w f env = with_now (read_function w false f env.scope (now_of env)).now env

-- an item that changes notes alone
abbrev pub noted_env : (Notes → Notes) → Env → Env
noted_env change env = record env { notes = change env.notes }

-- an export that ends behind a token; a specifier stands before its semicolon
abbrev pub read_export : World → Program → Module → ℕ → ExportForm → Env → Env
read_export w p m t (export_declaration d) env = read_declaration w d env
read_export w p m t (export_function f) env = read_top_function w f env
read_export w p m t (export_alias a) env = noted_env (alias_read w p env.scope a) env
read_export w p m t (export_names is_type ns) env = noted_env (exports_read w (scope_of m) is_type ns) env
read_export w p m t (export_from is_type ns spec) env =
    noted_env (λ notes. list_handed_on w p is_type spec ns (specifier_read w p (t - 2) spec notes)) env
read_export w p m t (export_default_function f) env = read_top_function w f env
read_export w p m t (export_default e) env = with_now (after (read w e env.scope None (now_of env))) env

-- an item from one token to another
abbrev pub read_item_form : World → Program → Module → ℕ → ℕ → ItemForm → Env → Env
read_item_form w p m f t (imports form spec) env =
    noted_env (λ notes. import_read w p f spec form (specifier_read w p (t - 2) spec notes)) env
read_item_form w p m f t (exports form) env = read_export w p m t form env
read_item_form w p m f t (declares_item d) env = read_declaration w d env
read_item_form w p m f t (function_item made_by) env = read_top_function w made_by env
read_item_form w p m f t (alias_item a) env = noted_env (alias_read w p env.scope a) env
read_item_form w p m f t (does_item (simple sf st form)) env = read_simple w sf st form env

abbrev pub read_item : World → Program → Module → Item → Env → Env
read_item w p m (item f t form) env = read_item_form w p m f t form env

-- the items of a module, in order
abbrev pub read_items : World → Program → Module → Items → Env → Env
read_items w p m no_item env = env
read_items w p m (more_item is i) env = read_item w p m i (read_items w p m is env)
