-- The names of a module's top level: those that it binds, and those that it exports.
use Rattle.std.specs.Prelude.{ℕ, suc, ◌-◌, ◌++◌, Bool, true, false, List, [], ◌∷◌, Some, unwrap_or, if◌then◌else◌}
use Rattle.js_grammar.specs.Code.{Function, function, Declaration, declaration}
use Rattle.js_grammar.specs.Items.{imported, Importeds, no_imported, more_imported, ImportList, import_list, ImportForm, import_default, import_both, import_names, import_types, import_only, AliasOf, alias, exported, Exporteds, no_exported, more_exported, ExportList, export_list, ExportForm, export_declaration, export_function, export_alias, export_names, export_from, export_default_function, export_default, ItemForm, imports, exports, declares_item, function_item, alias_item, does_item, item, Items, no_item, more_item}
use Rattle.check_values.specs.Rows.{Bytes, is_among}
use Rattle.check_values.specs.declared.codes.Code.TheVariants.{NameAlreadyBound}
use Rattle.type_values.specs.declared.types.FlowType.{FlowType}
use Rattle.type_values.specs.declared.types.FlowType as made
use Rattle.local_signatures.specs.Scope.{default_name}
use Rattle.typing.specs.Names.{Kind, constant, type_name, Binding, number_at, is_constant_kind}
use Rattle.typing.specs.Changes.{Change, changes_of_function, changes_of_declaration, changes_of_simple, changes_of_ex}
use Rattle.typing.specs.States.{World, Notes, fault_at, name_fault}
use Rattle.typing.specs.Functions.{Bound, bind, bind_declaration, bind_function}
use Rattle.module_errors.specs.Program.{Program, said, value_said}

-- ---- what is bound

-- a name of the top level whose type is known from the start
abbrev pub top_binding : Bytes → ℕ → Kind → FlowType → Binding
top_binding name token kind t = record { name = name; number = number_at (is_constant_kind kind) token; kind = kind; depth = 0; is_read = true; declared = Some t }

-- the name of another module at a token
abbrev pub import_binding : Program → Bool → Bytes → Bytes → Bytes → ℕ → Binding
import_binding p true spec outer name token = top_binding name token type_name made.Any
import_binding p false spec outer name token = top_binding name token constant (value_said (said p spec outer))

-- the imported names of a list, each at its last word
abbrev pub bind_importeds : World → Program → Bool → Bytes → Importeds → Bound → Bound
bind_importeds w p is_type spec no_imported so_far = so_far
bind_importeds w p is_type spec (more_imported ns (imported f t outer name)) so_far =
    bind w (t - 1) (import_binding p is_type spec (unwrap_or outer name) name (t - 1)) (bind_importeds w p is_type spec ns so_far)

-- and so for a whole list in braces
abbrev pub bind_list : World → Program → Bool → Bytes → ImportList → Bound → Bound
bind_list w p is_type spec (import_list f t ns comma) so_far = bind_importeds w p is_type spec ns so_far

-- the name under which a default export is imported, at its token
abbrev pub bind_default : World → Program → Bytes → ℕ → Bytes → Bound → Bound
bind_default w p spec token name so_far = bind w token (import_binding p false spec default_name name token) so_far

-- the names of an import that begins at a token
abbrev pub bind_import : World → Program → ℕ → Bytes → ImportForm → Bound → Bound
bind_import w p f spec (import_default name) so_far = bind_default w p spec (suc f) name so_far
bind_import w p f spec (import_both name ns) so_far = bind_list w p false spec ns (bind_default w p spec (suc f) name so_far)
bind_import w p f spec (import_names ns) so_far = bind_list w p false spec ns so_far
bind_import w p f spec (import_types ns) so_far = bind_list w p true spec ns so_far
bind_import w p f spec import_only so_far = so_far

-- an alias is a type
abbrev pub bind_alias : World → AliasOf → Bound → Bound
bind_alias w (alias f t name v) so_far = bind w (suc f) (top_binding name (suc f) type_name made.Any) so_far

-- what an export binds
abbrev pub bind_export : World → List Change → ExportForm → Bound → Bound
bind_export w changes (export_declaration d) so_far = bind_declaration w 0 changes d so_far
bind_export w changes (export_function f) so_far = bind_function w 0 f so_far
bind_export w changes (export_alias a) so_far = bind_alias w a so_far
bind_export w changes (export_default_function f) so_far = bind_function w 0 f so_far
bind_export w changes form so_far = so_far

-- what an item binds that begins at a token
abbrev pub bind_item : World → Program → List Change → ℕ → ItemForm → Bound → Bound
bind_item w p changes f (imports form spec) so_far = bind_import w p f spec form so_far
bind_item w p changes f (exports form) so_far = bind_export w changes form so_far
bind_item w p changes f (declares_item d) so_far = bind_declaration w 0 changes d so_far
bind_item w p changes f (function_item made_by) so_far = bind_function w 0 made_by so_far
bind_item w p changes f (alias_item a) so_far = bind_alias w a so_far
bind_item w p changes f (does_item s) so_far = so_far

-- the items of a module, in order
abbrev pub bind_items : World → Program → List Change → Items → Bound → Bound
bind_items w p changes no_item so_far = so_far
bind_items w p changes (more_item is (item f t form)) so_far = bind_item w p changes f form (bind_items w p changes is so_far)

-- what each part of a module may change
abbrev pub changes_of_export : ExportForm → List Change
changes_of_export (export_declaration d) = changes_of_declaration d
changes_of_export (export_function f) = changes_of_function f
changes_of_export (export_default_function f) = changes_of_function f
changes_of_export (export_default e) = changes_of_ex e
changes_of_export form = []

abbrev pub changes_of_item : ItemForm → List Change
changes_of_item (exports form) = changes_of_export form
changes_of_item (declares_item d) = changes_of_declaration d
changes_of_item (function_item f) = changes_of_function f
changes_of_item (does_item s) = changes_of_simple s
changes_of_item form = []

abbrev pub changes_of_items : Items → List Change
changes_of_items no_item = []
changes_of_items (more_item is (item f t form)) = changes_of_items is ++ changes_of_item form

-- ---- what is exported

-- an exported name, at a token
abbrev pub Exporting : Type 0
Exporting = ℕ × Bytes

-- the names of a list, each at its last word
abbrev pub exportings_in : Exporteds → List Exporting
exportings_in no_exported = []
exportings_in (more_exported ns (exported f t name renamed)) = exportings_in ns ++ (t - 1, unwrap_or renamed name) ∷ []

abbrev pub exportings_of_list : ExportList → List Exporting
exportings_of_list (export_list f t ns comma) = exportings_in ns

-- what is declared is exported at its name
abbrev pub exporting_of_declaration : Declaration → Exporting
exporting_of_declaration (declaration f t binder name annotation e) = (suc f, name)

abbrev pub exporting_of_function : Function → Exporting
exporting_of_function (function f t name s b) = (suc f, unwrap_or name default_name)

abbrev pub exporting_of_alias : AliasOf → Exporting
exporting_of_alias (alias f t name v) = (suc f, name)

-- the names of an export that begins at a token; a default export stands at the word `default`
abbrev pub exportings : ℕ → ExportForm → List Exporting
exportings f (export_declaration d) = exporting_of_declaration d ∷ []
exportings f (export_function made_by) = exporting_of_function made_by ∷ []
exportings f (export_alias a) = exporting_of_alias a ∷ []
exportings f (export_names is_type ns) = exportings_of_list ns
exportings f (export_from is_type ns spec) = exportings_of_list ns
exportings f (export_default_function made_by) = (suc f, default_name) ∷ []
exportings f (export_default e) = (suc f, default_name) ∷ []

abbrev pub exportings_of_item : ℕ → ItemForm → List Exporting
exportings_of_item f (exports form) = exportings f form
exportings_of_item f form = []

-- the exported names of a module's items, in order
abbrev pub exportings_of : Items → List Exporting
exportings_of no_item = []
exportings_of (more_item is (item f t form)) = exportings_of is ++ exportings_of_item f form

-- a second export of a name
abbrev pub exported_twice : World → List Bytes → List Exporting → Notes → Notes
exported_twice w before [] notes = notes
exported_twice w before (export ∷ more) notes =
    exported_twice w (export.1 ∷ before) more
    (if is_among before export.1 then name_fault (fault_at w export.0 (suc export.0) NameAlreadyBound export.1) notes else notes)
