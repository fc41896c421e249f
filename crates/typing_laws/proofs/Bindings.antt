-- What scopes bind tells by its number.
use Rattle.std.proofs.Common.{◌≡◌, ℕ, suc, ◌+◌, ◌-◌, Bool, true, false, List, ◌∷◌, Some, None, refl, ◌∙◌, cond}
use Rattle.std.specs.Prelude.{unwrap_or}
use Rattle.js_grammar.specs.Code.{const, let_word, Function, function, Sig, sig, Parameter, parameter, Parameters, no_parameter, more_parameter, Stmts, no_stmt, more_stmt, stmt, StmtForm, declares, function_stmt, does, branches, loop, nested, Declaration, declaration}
use Rattle.js_grammar.specs.Items.{imported, Importeds, no_imported, more_imported, ImportList, import_list, ImportForm, import_default, import_both, import_names, import_types, import_only, AliasOf, alias, ExportForm, export_declaration, export_function, export_alias, export_names, export_from, export_default_function, export_default, ItemForm, imports, exports, declares_item, function_item, alias_item, does_item, item, Items, no_item, more_item}
use Rattle.check_values.specs.Rows.{Bytes}
use Rattle.check_values.specs.declared.codes.Code.TheVariants.{NameAlreadyBound}
use Rattle.type_values.specs.declared.types.FlowType.{FlowType}
use Rattle.type_values.specs.declared.types.FlowType as made
use Rattle.local_signatures.specs.Scope.{default_name}
use Rattle.typing.specs.Changes.{Change, is_set_inside}
use Rattle.typing.specs.Names.{Kind, constant, changing, shared, type_name, Binding, is_constant_kind, binds}
use Rattle.typing.specs.States.{World, fault_at, name_fault}
use Rattle.typing.specs.Functions.{Bound, bind, changing_kind, parameter_binding, bind_parameters, bind_sig, declaration_binding, function_binding, bind_declaration, bind_function, bind_form, bind_stmts}
use Rattle.module_errors.specs.Program.{Program, said, value_said}
use Rattle.module_errors.specs.TopNames.{top_binding, import_binding, bind_importeds, bind_list, bind_default, bind_import, bind_alias, bind_export, bind_item, bind_items}
use Rattle.typing_laws.specs.Numbers.{Tells, AllTell}
use Rattle.typing_laws.proofs.Odd.{numbered_tells}

-- a name more, or a fault
pub bind_tells : (w : World) (token : ℕ) (b : Binding) (so_far : Bound) → Tells b → AllTell so_far.names → AllTell (bind w token b so_far).names
bind_tells w token b so_far tells all = go (binds so_far.names b.name)
  where
    go : (bound : Bool) → AllTell (cond bound (record so_far { notes = name_fault (fault_at w token (suc token) NameAlreadyBound b.name) so_far.notes }) (record so_far { names = b ∷ so_far.names })).names
    go true = all
    go false = (tells, all)

-- what changes is no constant
changing_is : (changes : List Change) (name : Bytes) → false ≡ is_constant_kind (changing_kind changes name)
changing_is changes name = go (is_set_inside changes name)
  where
    go : (inside : Bool) → false ≡ is_constant_kind (cond inside shared changing)
    go true = refl
    go false = refl

parameter_tells : (w : World) (depth : ℕ) (changes : List Change) (x : Parameter) → Tells (parameter_binding w depth changes x)
parameter_tells w depth changes (parameter f t name optional annotation) = numbered_tells false (f + 5) ∙ changing_is changes name

declaration_tells : (w : World) (depth : ℕ) (changes : List Change) (d : Declaration) → Tells (declaration_binding w depth changes d)
declaration_tells w depth changes (declaration f t const name annotation e) = numbered_tells true (suc f + 5)
declaration_tells w depth changes (declaration f t let_word name annotation e) = numbered_tells false (suc f + 5) ∙ changing_is changes name

pub function_tells : (w : World) (depth token : ℕ) (name : Bytes) (s : Sig) → Tells (function_binding w depth token name s)
function_tells w depth token name s = numbered_tells true (token + 5)

top_tells : (name : Bytes) (token : ℕ) (kind : Kind) (t : FlowType) → Tells (top_binding name token kind t)
top_tells name token kind t = numbered_tells (is_constant_kind kind) (token + 5)

import_tells : (p : Program) (is_type : Bool) (spec outer name : Bytes) (token : ℕ) → Tells (import_binding p is_type spec outer name token)
import_tells p true spec outer name token = top_tells name token type_name made.Any
import_tells p false spec outer name token = top_tells name token constant (value_said (said p spec outer))

-- ---- functions and statements

parameters_tell : (w : World) (depth : ℕ) (changes : List Change) (ps : Parameters) (so_far : Bound) → AllTell so_far.names → AllTell (bind_parameters w depth changes ps so_far).names
parameters_tell w depth changes no_parameter so_far all = all
parameters_tell w depth changes (more_parameter ps (parameter f t name optional annotation)) so_far all =
    bind_tells w f (parameter_binding w depth changes (parameter f t name optional annotation)) (bind_parameters w depth changes ps so_far)
    (parameter_tells w depth changes (parameter f t name optional annotation)) (parameters_tell w depth changes ps so_far all)

pub sig_tells : (w : World) (depth : ℕ) (changes : List Change) (s : Sig) (so_far : Bound) → AllTell so_far.names → AllTell (bind_sig w depth changes s so_far).names
sig_tells w depth changes (sig f t ps comma result) so_far all = parameters_tell w depth changes ps so_far all

declares_tells : (w : World) (depth : ℕ) (changes : List Change) (d : Declaration) (so_far : Bound) → AllTell so_far.names → AllTell (bind_declaration w depth changes d so_far).names
declares_tells w depth changes (declaration f t binder name annotation e) so_far all =
    bind_tells w (suc f) (declaration_binding w depth changes (declaration f t binder name annotation e)) so_far (declaration_tells w depth changes (declaration f t binder name annotation e)) all

named_tells : (w : World) (depth : ℕ) (x : Function) (so_far : Bound) → AllTell so_far.names → AllTell (bind_function w depth x so_far).names
named_tells w depth (function f t None s b) so_far all = all
named_tells w depth (function f t (Some name) s b) so_far all = bind_tells w (suc f) (function_binding w depth (suc f) name s) so_far (function_tells w depth (suc f) name s) all

form_tells : (w : World) (depth : ℕ) (changes : List Change) (form : StmtForm) (so_far : Bound) → AllTell so_far.names → AllTell (bind_form w depth changes form so_far).names
form_tells w depth changes (declares d) so_far all = declares_tells w depth changes d so_far all
form_tells w depth changes (function_stmt x) so_far all = named_tells w depth x so_far all
form_tells w depth changes (does s) so_far all = all
form_tells w depth changes (branches bs last) so_far all = all
form_tells w depth changes (loop e body) so_far all = all
form_tells w depth changes (nested b) so_far all = all

pub statements_tell : (w : World) (depth : ℕ) (changes : List Change) (ss : Stmts) (so_far : Bound) → AllTell so_far.names → AllTell (bind_stmts w depth changes ss so_far).names
statements_tell w depth changes no_stmt so_far all = all
statements_tell w depth changes (more_stmt ss (stmt f t form)) so_far all =
    form_tells w depth changes form (bind_stmts w depth changes ss so_far) (statements_tell w depth changes ss so_far all)

-- ---- items

importeds_tell : (w : World) (p : Program) (is_type : Bool) (spec : Bytes) (ns : Importeds) (so_far : Bound) → AllTell so_far.names → AllTell (bind_importeds w p is_type spec ns so_far).names
importeds_tell w p is_type spec no_imported so_far all = all
importeds_tell w p is_type spec (more_imported ns (imported f t outer name)) so_far all =
    bind_tells w (t - 1) (import_binding p is_type spec (unwrap_or outer name) name (t - 1)) (bind_importeds w p is_type spec ns so_far)
    (import_tells p is_type spec (unwrap_or outer name) name (t - 1)) (importeds_tell w p is_type spec ns so_far all)

list_tells : (w : World) (p : Program) (is_type : Bool) (spec : Bytes) (ns : ImportList) (so_far : Bound) → AllTell so_far.names → AllTell (bind_list w p is_type spec ns so_far).names
list_tells w p is_type spec (import_list f t ns comma) so_far all = importeds_tell w p is_type spec ns so_far all

default_tells : (w : World) (p : Program) (spec : Bytes) (token : ℕ) (name : Bytes) (so_far : Bound) → AllTell so_far.names → AllTell (bind_default w p spec token name so_far).names
default_tells w p spec token name so_far all =
    bind_tells w token (import_binding p false spec default_name name token) so_far (import_tells p false spec default_name name token) all

import_form_tells : (w : World) (p : Program) (f : ℕ) (spec : Bytes) (form : ImportForm) (so_far : Bound) → AllTell so_far.names → AllTell (bind_import w p f spec form so_far).names
import_form_tells w p f spec (import_default name) so_far all = default_tells w p spec (suc f) name so_far all
import_form_tells w p f spec (import_both name ns) so_far all =
    list_tells w p false spec ns (bind_default w p spec (suc f) name so_far) (default_tells w p spec (suc f) name so_far all)
import_form_tells w p f spec (import_names ns) so_far all = list_tells w p false spec ns so_far all
import_form_tells w p f spec (import_types ns) so_far all = list_tells w p true spec ns so_far all
import_form_tells w p f spec import_only so_far all = all

alias_tells : (w : World) (a : AliasOf) (so_far : Bound) → AllTell so_far.names → AllTell (bind_alias w a so_far).names
alias_tells w (alias f t name v) so_far all = bind_tells w (suc f) (top_binding name (suc f) type_name made.Any) so_far (top_tells name (suc f) type_name made.Any) all

export_tells : (w : World) (changes : List Change) (form : ExportForm) (so_far : Bound) → AllTell so_far.names → AllTell (bind_export w changes form so_far).names
export_tells w changes (export_declaration d) so_far all = declares_tells w 0 changes d so_far all
export_tells w changes (export_function x) so_far all = named_tells w 0 x so_far all
export_tells w changes (export_alias a) so_far all = alias_tells w a so_far all
export_tells w changes (export_names is_type ns) so_far all = all
export_tells w changes (export_from is_type ns spec) so_far all = all
export_tells w changes (export_default_function x) so_far all = named_tells w 0 x so_far all
export_tells w changes (export_default e) so_far all = all

item_tells : (w : World) (p : Program) (changes : List Change) (f : ℕ) (form : ItemForm) (so_far : Bound) → AllTell so_far.names → AllTell (bind_item w p changes f form so_far).names
item_tells w p changes f (imports form spec) so_far all = import_form_tells w p f spec form so_far all
item_tells w p changes f (exports form) so_far all = export_tells w changes form so_far all
item_tells w p changes f (declares_item d) so_far all = declares_tells w 0 changes d so_far all
item_tells w p changes f (function_item x) so_far all = named_tells w 0 x so_far all
item_tells w p changes f (alias_item a) so_far all = alias_tells w a so_far all
item_tells w p changes f (does_item s) so_far all = all

pub items_tell : (w : World) (p : Program) (changes : List Change) (is : Items) (so_far : Bound) → AllTell so_far.names → AllTell (bind_items w p changes is so_far).names
items_tell w p changes no_item so_far all = all
items_tell w p changes (more_item is (item f t form)) so_far all =
    item_tells w p changes f form (bind_items w p changes is so_far) (items_tell w p changes is so_far all)
