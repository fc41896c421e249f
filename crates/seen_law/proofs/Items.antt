-- What is watched once a module was read is what is kept of its expressions, one after another.
use Rattle.std.proofs.Common.{◌≡◌, ℕ, suc, ◌-◌, ◌&&◌, Bool, true, false, List, [], ◌∷◌, Option, Some, None, unwrap_or, if◌then◌else◌, refl, ◌∙◌}
use Rattle.js_grammar.specs.Code.{simple}
use Rattle.js_grammar.specs.Items.{imported, Importeds, no_imported, more_imported, ImportList, import_list, ImportForm, import_default, import_both, import_names, import_types, import_only, AliasOf, alias, exported, Exporteds, no_exported, more_exported, ExportList, export_list, ExportForm, export_declaration, export_function, export_alias, export_names, export_from, export_default_function, export_default, ItemForm, imports, exports, declares_item, function_item, alias_item, does_item, item, Items, no_item, more_item, Module, module_of}
use Rattle.flow_values.specs.declared.span.Span.{Span}
use Rattle.check_values.specs.Rows.{Bytes, row_at, is_among}
use Rattle.check_values.specs.declared.codes.Code.{Code}
use Rattle.check_values.specs.declared.codes.Code.TheVariants.{NameAlreadyBound, RecursiveAlias}
use Rattle.type_values.specs.declared.types.FlowType as made
use Rattle.local_signatures.specs.Scope as home
use Rattle.local_signatures.specs.Scope.{scope_of, default_name}
use Rattle.merged_signatures.specs.Chains.{found}
use Rattle.typing.specs.Names.{type_name, Scope, binding_of}
use Rattle.typing.specs.Changes.{Change}
use Rattle.typing.specs.States.{World, Notes, Env, fault_at, name_fault, now_of}
use Rattle.typing.specs.Functions.{Bound, none_bound}
use Rattle.typing.specs.TypeFaults.{type_meant}
use Rattle.module_errors.specs.Program.{Program, said, wrong_import, world_of}
use Rattle.module_errors.specs.TopNames.{top_binding, import_binding, bind_importeds, bind_list, bind_default, bind_import, bind_alias, bind_export, bind_item, bind_items, changes_of_items, Exporting, exportings_of, exported_twice}
use Rattle.module_errors.specs.Items.{specifier_found, specifier_read, wrong_at, imported_read, importeds_read, list_read, import_read, wrong_export, exporteds_read, exports_read, handed_on, list_handed_on, is_bound_at, is_on_cycle, alias_read, read_export, read_item_form, read_items}
use Rattle.module_errors.specs.Errors.{no_notes, top_env, module_read}
use Rattle.seen_law.specs.Reads.{seen_export, seen_item, seen_items, expressions_read}
use Rattle.seen_law.specs.Innermost.{TellsInnermost}
use Rattle.seen_law.proofs.Listed.{all_seen, follows, begins, type_among}
use Rattle.seen_law.proofs.Kept.{either, type_kept}
use Rattle.seen_law.proofs.Bound.{bind_kept, bind_declaration_kept, bind_function_kept}
use Rattle.seen_law.proofs.Reading.{ex_seen, function_seen, declaration_seen, simple_seen}

-- ---- imports and exports

specifier_kept : (w : World) (token : ℕ) (spec : Bytes) (o : Option Bytes) (n : Notes) → (specifier_found w token spec o n).watched ≡ n.watched
specifier_kept w token spec None n = refl
specifier_kept w token spec (Some path) n = refl

wrong_kept : (w : World) (token : ℕ) (name : Bytes) (o : Option Code) (n : Notes) → (wrong_at w token name o n).watched ≡ n.watched
wrong_kept w token name None n = refl
wrong_kept w token name (Some code) n = refl

imported_kept : (w : World) (p : Program) (is_type : Bool) (spec : Bytes) (token : ℕ) (name : Bytes) (n : Notes) → (imported_read w p is_type spec token name n).watched ≡ n.watched
imported_kept w p is_type spec token name n = wrong_kept w token name (wrong_import is_type (said p spec name)) n

importeds_kept : (w : World) (p : Program) (is_type : Bool) (spec : Bytes) (ns : Importeds) (n : Notes) → (importeds_read w p is_type spec ns n).watched ≡ n.watched
importeds_kept w p is_type spec no_imported n = refl
importeds_kept w p is_type spec (more_imported ns (imported f t outer name)) n = imported_kept w p is_type spec f (unwrap_or outer name) (importeds_read w p is_type spec ns n) ∙ importeds_kept w p is_type spec ns n

list_kept : (w : World) (p : Program) (is_type : Bool) (spec : Bytes) (l : ImportList) (n : Notes) → (list_read w p is_type spec l n).watched ≡ n.watched
list_kept w p is_type spec (import_list f t ns comma) n = importeds_kept w p is_type spec ns n

import_kept : (w : World) (p : Program) (f : ℕ) (spec : Bytes) (form : ImportForm) (n : Notes) → (import_read w p f spec form n).watched ≡ n.watched
import_kept w p f spec (import_default name) n = imported_kept w p false spec (suc f) default_name n
import_kept w p f spec (import_both name ns) n = list_kept w p false spec ns (imported_read w p false spec (suc f) default_name n) ∙ imported_kept w p false spec (suc f) default_name n
import_kept w p f spec (import_names ns) n = list_kept w p false spec ns n
import_kept w p f spec (import_types ns) n = list_kept w p true spec ns n
import_kept w p f spec import_only n = refl

exporteds_kept : (w : World) (top : home.Scope) (is_type : Bool) (ns : Exporteds) (n : Notes) → (exporteds_read w top is_type ns n).watched ≡ n.watched
exporteds_kept w top is_type no_exported n = refl
exporteds_kept w top is_type (more_exported ns (exported f t name renamed)) n = wrong_kept w f name (wrong_export is_type (row_at top name)) (exporteds_read w top is_type ns n) ∙ exporteds_kept w top is_type ns n

exports_kept : (w : World) (top : home.Scope) (is_type : Bool) (l : ExportList) (n : Notes) → (exports_read w top is_type l n).watched ≡ n.watched
exports_kept w top is_type (export_list f t ns comma) n = exporteds_kept w top is_type ns n

handed_kept : (w : World) (p : Program) (is_type : Bool) (spec : Bytes) (ns : Exporteds) (n : Notes) → (handed_on w p is_type spec ns n).watched ≡ n.watched
handed_kept w p is_type spec no_exported n = refl
handed_kept w p is_type spec (more_exported ns (exported f t name renamed)) n = imported_kept w p is_type spec f name (handed_on w p is_type spec ns n) ∙ handed_kept w p is_type spec ns n

list_handed_kept : (w : World) (p : Program) (is_type : Bool) (spec : Bytes) (l : ExportList) (n : Notes) → (list_handed_on w p is_type spec l n).watched ≡ n.watched
list_handed_kept w p is_type spec (export_list f t ns comma) n = handed_kept w p is_type spec ns n

alias_kept : (w : World) (p : Program) (scope : Scope) (a : AliasOf) (n : Notes) → (alias_read w p scope a n).watched ≡ n.watched
alias_kept w p scope (alias f t name v) n =
    let cyclic : Bool = is_bound_at (suc f) (binding_of scope.names name) && is_on_cycle p.is_cyclic (type_meant (w.type_meaning name)) in
    let fault : Notes = name_fault (fault_at w (suc f) (suc (suc f)) RecursiveAlias name) n in
    type_kept w v (if cyclic then fault else n) ∙ either cyclic fault n n.watched refl refl

-- ---- items

export_seen : (w : World) (p : Program) (m : Module) (t : ℕ) (form : ExportForm) (e : Env) → (read_export w p m t form e).notes.watched ≡ all_seen w.watch e.notes.watched (seen_export w form e)
export_seen w p m t (export_declaration d) e = declaration_seen w d e
export_seen w p m t (export_function f) e = function_seen w false f e.scope (now_of e)
export_seen w p m t (export_alias a) e = alias_kept w p e.scope a e.notes
export_seen w p m t (export_names is_type ns) e = exports_kept w (scope_of m) is_type ns e.notes
export_seen w p m t (export_from is_type ns spec) e = list_handed_kept w p is_type spec ns (specifier_read w p (t - 2) spec e.notes) ∙ specifier_kept w (t - 2) spec (found p.deps spec) e.notes
export_seen w p m t (export_default_function f) e = function_seen w false f e.scope (now_of e)
export_seen w p m t (export_default v) e = ex_seen w v e.scope None (now_of e)

item_seen : (w : World) (p : Program) (m : Module) (f t : ℕ) (form : ItemForm) (e : Env) → (read_item_form w p m f t form e).notes.watched ≡ all_seen w.watch e.notes.watched (seen_item w form e)
item_seen w p m f t (imports form spec) e = import_kept w p f spec form (specifier_read w p (t - 2) spec e.notes) ∙ specifier_kept w (t - 2) spec (found p.deps spec) e.notes
item_seen w p m f t (exports form) e = export_seen w p m t form e
item_seen w p m f t (declares_item d) e = declaration_seen w d e
item_seen w p m f t (function_item made_by) e = function_seen w false made_by e.scope (now_of e)
item_seen w p m f t (alias_item a) e = alias_kept w p e.scope a e.notes
item_seen w p m f t (does_item (simple sf st form)) e = simple_seen w sf st form e

items_seen : (w : World) (p : Program) (m : Module) (is : Items) (e : Env) → (read_items w p m is e).notes.watched ≡ all_seen w.watch e.notes.watched (seen_items w p m is e)
items_seen w p m no_item e = refl
items_seen w p m (more_item is (item f t form)) e =
    let before : Env = read_items w p m is e in
    follows w.watch e.notes.watched before.notes.watched (read_item_form w p m f t form before).notes.watched (seen_items w p m is e) (seen_item w form before) (items_seen w p m is e) (item_seen w p m f t form before)

-- ---- the names of the top level

bind_importeds_kept : (w : World) (p : Program) (is_type : Bool) (spec : Bytes) (ns : Importeds) (x : Bound) → (bind_importeds w p is_type spec ns x).notes.watched ≡ x.notes.watched
bind_importeds_kept w p is_type spec no_imported x = refl
bind_importeds_kept w p is_type spec (more_imported ns (imported f t outer name)) x =
    bind_kept w (t - 1) (import_binding p is_type spec (unwrap_or outer name) name (t - 1)) (bind_importeds w p is_type spec ns x) ∙ bind_importeds_kept w p is_type spec ns x

bind_list_kept : (w : World) (p : Program) (is_type : Bool) (spec : Bytes) (l : ImportList) (x : Bound) → (bind_list w p is_type spec l x).notes.watched ≡ x.notes.watched
bind_list_kept w p is_type spec (import_list f t ns comma) x = bind_importeds_kept w p is_type spec ns x

bind_default_kept : (w : World) (p : Program) (spec : Bytes) (token : ℕ) (name : Bytes) (x : Bound) → (bind_default w p spec token name x).notes.watched ≡ x.notes.watched
bind_default_kept w p spec token name x = bind_kept w token (import_binding p false spec default_name name token) x

bind_import_kept : (w : World) (p : Program) (f : ℕ) (spec : Bytes) (form : ImportForm) (x : Bound) → (bind_import w p f spec form x).notes.watched ≡ x.notes.watched
bind_import_kept w p f spec (import_default name) x = bind_default_kept w p spec (suc f) name x
bind_import_kept w p f spec (import_both name ns) x = bind_list_kept w p false spec ns (bind_default w p spec (suc f) name x) ∙ bind_default_kept w p spec (suc f) name x
bind_import_kept w p f spec (import_names ns) x = bind_list_kept w p false spec ns x
bind_import_kept w p f spec (import_types ns) x = bind_list_kept w p true spec ns x
bind_import_kept w p f spec import_only x = refl

bind_alias_kept : (w : World) (a : AliasOf) (x : Bound) → (bind_alias w a x).notes.watched ≡ x.notes.watched
bind_alias_kept w (alias f t name v) x = bind_kept w (suc f) (top_binding name (suc f) type_name made.Any) x

bind_export_kept : (w : World) (changes : List Change) (form : ExportForm) (x : Bound) → (bind_export w changes form x).notes.watched ≡ x.notes.watched
bind_export_kept w changes (export_declaration d) x = bind_declaration_kept w 0 changes d x
bind_export_kept w changes (export_function f) x = bind_function_kept w 0 f x
bind_export_kept w changes (export_alias a) x = bind_alias_kept w a x
bind_export_kept w changes (export_names is_type ns) x = refl
bind_export_kept w changes (export_from is_type ns spec) x = refl
bind_export_kept w changes (export_default_function f) x = bind_function_kept w 0 f x
bind_export_kept w changes (export_default v) x = refl

bind_item_kept : (w : World) (p : Program) (changes : List Change) (f : ℕ) (form : ItemForm) (x : Bound) → (bind_item w p changes f form x).notes.watched ≡ x.notes.watched
bind_item_kept w p changes f (imports form spec) x = bind_import_kept w p f spec form x
bind_item_kept w p changes f (exports form) x = bind_export_kept w changes form x
bind_item_kept w p changes f (declares_item d) x = bind_declaration_kept w 0 changes d x
bind_item_kept w p changes f (function_item made_by) x = bind_function_kept w 0 made_by x
bind_item_kept w p changes f (alias_item a) x = bind_alias_kept w a x
bind_item_kept w p changes f (does_item s) x = refl

bind_items_kept : (w : World) (p : Program) (changes : List Change) (is : Items) (x : Bound) → (bind_items w p changes is x).notes.watched ≡ x.notes.watched
bind_items_kept w p changes no_item x = refl
bind_items_kept w p changes (more_item is (item f t form)) x = bind_item_kept w p changes f form (bind_items w p changes is x) ∙ bind_items_kept w p changes is x

twice_kept : (w : World) (before : List Bytes) (all : List Exporting) (n : Notes) → (exported_twice w before all n).watched ≡ n.watched
twice_kept w before [] n = refl
twice_kept w before (export ∷ more) n =
    let fault : Notes = name_fault (fault_at w export.0 (suc export.0) NameAlreadyBound export.1) n in
    twice_kept w (export.1 ∷ before) more (if is_among before export.1 then fault else n) ∙ either (is_among before export.1) fault n n.watched refl refl

top_kept : (w : World) (p : Program) (is : Items) → (top_env w p is).notes.watched ≡ None
top_kept w p is =
    twice_kept w [] (exportings_of is) (bind_items w p (changes_of_items is) is (none_bound no_notes)).notes ∙ bind_items_kept w p (changes_of_items is) is (none_bound no_notes)

-- ---- a module

module_seen : (p : Program) (m : Module) (spans : List Span) (place : ℕ) → (module_read p m spans (Some place)).notes.watched ≡ all_seen (Some place) None (expressions_read p m spans place)
module_seen p (module_of f t is) spans place =
    let w : World = world_of p (module_of f t is) spans (Some place) in
    begins (Some place) None (top_env w p is).notes.watched (read_items w p (module_of f t is) is (top_env w p is)).notes.watched (seen_items w p (module_of f t is) is (top_env w p is)) (top_kept w p is) (items_seen w p (module_of f t is) is (top_env w p is))

pub tells_innermost : TellsInnermost
tells_innermost p m spans place =
    type_among place (expressions_read p m spans place) (module_read p m spans (Some place)).notes.watched _ (module_seen p m spans place) refl
