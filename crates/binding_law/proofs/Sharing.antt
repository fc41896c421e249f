-- What is decided by names is what assignments find.
use Rattle.std.proofs.Common.{◌≡◌, ◌⊎◌, ◌↔◌, ℕ, suc, ◌-◌, ◌||◌, Bool, true, false, List, [], ◌∷◌, ◌++◌, Option, Some, None, cond, Contains, bytes_eq, inl, inr, refl, sym, ap, ◌∙◌, subst, unwrap_or}
use Rattle.std.specs.List.{AllByRecursion, filter_map}
use Rattle.std.specs.Cmp.Lexicographic.{bytes_decides, nat_list_eq_equiv}
use Rattle.js_grammar.specs.Code.{ex, ExForm, function_ex, arrow, function, Sig, arrow_block, arrow_value, block, Stmts}
use Rattle.js_grammar.specs.Items.{imported, Importeds, no_imported, more_imported, ImportList, import_list, ImportForm, import_default, import_both, import_names, import_types, import_only, AliasOf, alias, ExportForm, export_declaration, export_function, export_alias, export_names, export_from, export_default_function, export_default, ItemForm, imports, exports, declares_item, function_item, alias_item, does_item, item, Items, no_item, more_item}
use Rattle.std.proofs.lemmas.Bool.{or_right}
use Rattle.check_values.specs.Rows.{Bytes, is_among}
use Rattle.type_values.specs.declared.types.FlowType as made
use Rattle.local_signatures.specs.Scope.{default_name}
use Rattle.subtyping.proofs.Whole.{first_or, nothing, here, there}
use Rattle.typing.specs.Changes.{Change, sets_variable, sets_property, may_set_all, sets_inside, is_set_inside, variable_set, declared_in, names_of_sig, changes_of_ex, changes_of_stmts}
use Rattle.typing.specs.Names.{Kind, changing, shared, type_name, Binding, Scope, binding_of, binds, prelude, number_of, numbers_of}
use Rattle.typing.specs.States.{World}
use Rattle.typing.specs.Functions.{Bound, none_bound, changing_kind, bind_sig, bind_stmts, function_binding}
use Rattle.module_errors.specs.Program.{Program}
use Rattle.module_errors.specs.TopNames.{top_binding, import_binding, bind_importeds, bind_list, bind_default, bind_import, bind_alias, bind_export, bind_item, bind_items, changes_of_items}
use Rattle.module_errors.specs.Errors.{no_notes, top_env}
use Rattle.binding_law.specs.Pieces.{Piece, an_expression, a_function, a_block, a_list, the_items, parts, bound_by, changes_of}
use Rattle.binding_law.specs.Scopes.{IsBody, IsEntered, IsFound, is_variable, SharedIsAssignedInside, NumbersAreAssigned}
use Rattle.binding_law.proofs.Changing.{never, mapped_in, mapped_out}
use Rattle.binding_law.proofs.Outwards.{changes_are_assignments}
use Rattle.binding_law.proofs.Finding.{binding_front}
use Rattle.binding_law.proofs.Bound.{sig_binds, statements_bind, body_binds, own_binds, TellsKind, AllTellKind, bind_kinds, sig_kinds, declares_kinds, named_kinds, statements_kinds}
use Rattle.binding_law.proofs.Entering.{assigned_found, found_assigned}

-- ---- what is changed is found

pub change_found : (w : World) (inner : Bool) (name : Bytes) (p : Piece) (outer : Scope) → Contains (changes_of p) (sets_variable inner name) ↔ IsFound w inner name p outer
change_found w inner name p outer =
    let law = changes_are_assignments.variables p inner name in
    (λ has. assigned_found w inner name p outer (law.0 has), λ found. law.1 (found_assigned w inner name p outer found))

-- ---- numbers

abbrev name_of : Bytes → Option Bytes → Bytes
name_of name None = name
name_of name (Some own) = own

pub numbers_assigned : NumbersAreAssigned
numbers_assigned w p outer number = (λ has. out (mapped_out (number_of outer) (filter_map variable_set (changes_of p)) number has), back)
  where
    Assigned : Type 0
    Assigned = (name : Bytes) × (inner : Bool) × (number_of outer name ≡ Some number) × IsFound w inner name p outer

    told : (name : Bytes) → number_of outer name ≡ Some number → (c : Change) × Contains (changes_of p) c × (variable_set c ≡ Some name) → (own : Bytes) × (inner : Bool) × (number_of outer own ≡ Some number) × IsFound w inner own p outer
    told name is (sets_variable inner own, has, same) =
        let alike : own ≡ name = ap (name_of name) same in
        (own, inner, ap (number_of outer) alike ∙ is, (change_found w inner own p outer).0 has)
    told name is (sets_property own, has, same) = absurd (let wrong : ⊥ = cc in wrong)
    told name is (may_set_all, has, same) = absurd (let wrong : ⊥ = cc in wrong)

    out : (name : Bytes) × Contains (filter_map variable_set (changes_of p)) name × (number_of outer name ≡ Some number) → (own : Bytes) × (inner : Bool) × (number_of outer own ≡ Some number) × IsFound w inner own p outer
    out (name, has, is) = told name is (mapped_out variable_set (changes_of p) name has)

    back : (name : Bytes) × (inner : Bool) × (number_of outer name ≡ Some number) × IsFound w inner name p outer → Contains (numbers_of outer (filter_map variable_set (changes_of p))) number
    back (name, inner, is, found) =
        mapped_in (number_of outer) (filter_map variable_set (changes_of p)) name number is
        (mapped_in variable_set (changes_of p) (sets_variable inner name) name refl ((change_found w inner name p outer).1 found))

-- ---- kinds

inside_one : (name : Bytes) (c : Change) → sets_inside name c ≡ true → c ≡ sets_variable true name
inside_one name (sets_variable true own) is = ap (sets_variable true) ((bytes_decides own name).0 is)
inside_one name (sets_variable false own) is = never is
inside_one name (sets_property own) is = never is
inside_one name may_set_all is = never is

set_inside_has : (changes : List Change) (name : Bytes) → is_set_inside changes name ≡ true → Contains changes (sets_variable true name)
set_inside_has [] name is = never is
set_inside_has (c ∷ changes) name is = go (sets_inside name c) refl is (set_inside_has changes name)
  where
    go : (b : Bool) → sets_inside name c ≡ b → (b || is_set_inside changes name) ≡ true → (is_set_inside changes name ≡ true → Contains changes (sets_variable true name)) → Contains (c ∷ changes) (sets_variable true name)
    go true at one rest = subst (λ (d : Change). Contains (d ∷ changes) (sets_variable true name)) (sym (inside_one name c at)) (here (sets_variable true name) changes)
    go false at more rest = there c (sets_variable true name) changes (rest more)

has_set_inside : (changes : List Change) (name : Bytes) → Contains changes (sets_variable true name) → is_set_inside changes name ≡ true
has_set_inside [] name has = nothing (sets_variable true name) has
has_set_inside (c ∷ changes) name has = go (first_or c changes (sets_variable true name) has) (has_set_inside changes name)
  where
    go : (c ≡ sets_variable true name) ⊎ Contains changes (sets_variable true name) → (Contains changes (sets_variable true name) → is_set_inside changes name ≡ true) → is_set_inside (c ∷ changes) name ≡ true
    go (inl same) rest = ap (λ (d : Change). sets_inside name d || is_set_inside changes name) same ∙ ap (λ (b : Bool). b || is_set_inside changes name) (nat_list_eq_equiv.refl name)
    go (inr later) rest = or_right (sets_inside name c) (is_set_inside changes name) (rest later)

abbrev is_shared : Kind → Bool
is_shared shared = true
is_shared kind = false

shared_where : (changes : List Change) (name : Bytes) (k : Kind) → k ≡ changing_kind changes name → (k ≡ shared) ↔ Contains changes (sets_variable true name)
shared_where changes name k tells = (λ is. set_inside_has changes name (go (is_set_inside changes name) (ap is_shared (sym tells ∙ is))), λ has. tells ∙ ap (λ (b : Bool). cond b shared changing) (has_set_inside changes name has))
  where
    go : (b : Bool) → is_shared (cond b shared changing) ≡ true → b ≡ true
    go true is = refl
    go false is = never is

-- the binding that a name finds is one of that name
pub finds_one : (P : Binding → Type 0) (names : List Binding) (name : Bytes) (b : Binding) → AllByRecursion P names → binding_of names name ≡ Some b → P b × (b.name ≡ name)
finds_one P [] name b all is = absurd (let wrong : ⊥ = cc in wrong)
finds_one P (c ∷ names) name b all is = go (bytes_eq c.name name) refl is (finds_one P names name b all.1)
  where
    given : Option Binding → Binding
    given None = c
    given (Some d) = d

    go : (same : Bool) → bytes_eq c.name name ≡ same → cond same (Some c) (binding_of names name) ≡ Some b → (binding_of names name ≡ Some b → P b × (b.name ≡ name)) → P b × (b.name ≡ name)
    go true at found rest =
        let it : c ≡ b = cc in
        (subst P it all.0, sym (ap (λ (d : Binding). d.name) it) ∙ (bytes_decides c.name name).0 at)
    go false at found rest = rest found

shared_found : (w : World) (q : Piece) (scope : Scope) (name : Bytes) (names : List Binding) (b : Binding) → AllTellKind (changes_of q) names → binding_of names name ≡ Some b → is_variable b.kind ≡ true → (b.kind ≡ shared) ↔ IsFound w true name q scope
shared_found w q scope name names b all is changes =
    let one = finds_one (TellsKind (changes_of q)) names name b all is in
    let first = shared_where (changes_of q) name b.kind (one.0 changes ∙ ap (changing_kind (changes_of q)) one.1) in
    let second = change_found w true name q scope in
    (λ shares. second.0 (first.0 shares), λ found. first.1 (second.1 found))

-- ---- a scope inside

-- these names stand in front, for the one part
abbrev Shares : World → Bytes → Binding → Piece → Scope → Type 0
Shares w name b q scope = (b.kind ≡ shared) ↔ IsFound w true name q scope

own_shared : (w : World) (p q : Piece) (scope : Scope) (name : Bytes) (own names : List Binding) (b : Binding) → Contains (p ∷ []) q → scope.names ≡ own ++ names → binds own name ≡ true → AllTellKind (changes_of p) own →
    binding_of scope.names name ≡ Some b → is_variable b.kind ≡ true → Shares w name b q scope
own_shared w p q scope name own names b part is bound all found changes = elim (first_or p [] q part) [
  | inl same ↦ subst (λ (x : Piece). Shares w name b x scope) same
      (shared_found w p scope name own b all (sym (ap (λ (l : List Binding). binding_of l name) is ∙ binding_front own names name bound) ∙ found) changes)
  | inr rest ↦ nothing q rest
]

body_shared : (w : World) (s : Sig) (ss : Stmts) (q : Piece) (outer scope : Scope) (name : Bytes) (b : Binding) → Contains (a_list ss ∷ []) q → IsBody w s ss outer scope → is_among (names_of_sig s ++ declared_in ss) name ≡ true →
    binding_of scope.names name ≡ Some b → is_variable b.kind ≡ true → Shares w name b q scope
body_shared w s ss q outer scope name b part (facts, notes, is) bound found changes =
    let params : Bound = bind_sig w (suc outer.depth) (changes_of_stmts ss) s (none_bound notes) in
    let own : Bound = bind_stmts w (suc outer.depth) (changes_of_stmts ss) ss params in
    own_shared w (a_list ss) q scope name own.names outer.names b part (ap (λ (x : Scope). x.names) is) (body_binds w (suc outer.depth) (changes_of_stmts ss) s ss (none_bound notes) name refl ∙ bound)
    (statements_kinds w (suc outer.depth) (changes_of_stmts ss) ss params (sig_kinds w (suc outer.depth) (changes_of_stmts ss) s (none_bound notes) tt)) found changes

form_shared : (w : World) (f t : ℕ) (form : ExForm) (q : Piece) (outer scope : Scope) (name : Bytes) (b : Binding) → Contains (parts (an_expression (ex f t form))) q → IsEntered w (an_expression (ex f t form)) q outer scope →
    is_among (bound_by (an_expression (ex f t form))) name ≡ true → binding_of scope.names name ≡ Some b → is_variable b.kind ≡ true → Shares w name b q scope
form_shared w f t (function_ex (function ff ft None s body)) q outer scope name b part is bound found changes = never bound
form_shared w f t (function_ex (function ff ft (Some own) s body)) q outer scope name b part is bound found changes =
    let made_by : Binding = function_binding w outer.depth (suc ff) own s in
    own_shared w (a_function (function ff ft (Some own) s body)) q scope name (made_by ∷ []) outer.names b part (ap (λ (x : Scope). x.names) is) (own_binds made_by name ∙ bound) (λ no. never no, tt) found changes
form_shared w f t (arrow s (arrow_block (block bf bt ss))) q outer scope name b part is bound found changes = body_shared w s ss q outer scope name b part is bound found changes
form_shared w f t (arrow s (arrow_value e)) q outer scope name b part (facts, notes, is) bound found changes =
    let own : Bound = bind_sig w (suc outer.depth) (changes_of_ex e) s (none_bound notes) in
    own_shared w (an_expression e) q scope name own.names outer.names b part (ap (λ (x : Scope). x.names) is) (sig_binds w (suc outer.depth) (changes_of_ex e) s (none_bound notes) name ∙ bound)
    (sig_kinds w (suc outer.depth) (changes_of_ex e) s (none_bound notes) tt) found changes
form_shared w f t form q outer scope name b part is bound found changes = never bound

inner_shared : (w : World) (p q : Piece) (outer scope : Scope) (name : Bytes) (b : Binding) → Contains (parts p) q → IsEntered w p q outer scope → is_among (bound_by p) name ≡ true → binding_of scope.names name ≡ Some b → is_variable b.kind ≡ true → Shares w name b q scope
inner_shared w (an_expression (ex f t form)) q outer scope name b part is bound found changes = form_shared w f t form q outer scope name b part is bound found changes
inner_shared w (a_function (function f t own s (block bf bt ss))) q outer scope name b part is bound found changes = body_shared w s ss q outer scope name b part is bound found changes
inner_shared w (a_block (block f t ss)) q outer scope name b part (env, first, is) bound found changes =
    let own : Bound = bind_stmts w env.scope.depth (changes_of_stmts ss) ss (none_bound env.notes) in
    own_shared w (a_list ss) q scope name own.names env.scope.names b part (ap (λ (x : Scope). x.names) is) (statements_bind w env.scope.depth (changes_of_stmts ss) ss (none_bound env.notes) name ∙ bound)
    (statements_kinds w env.scope.depth (changes_of_stmts ss) ss (none_bound env.notes) tt) found changes
inner_shared w p q outer scope name b part is bound found changes = never bound

-- ---- the scope of a module

import_kinds : (changes : List Change) (p : Program) (is_type : Bool) (spec outer name : Bytes) (token : ℕ) → TellsKind changes (import_binding p is_type spec outer name token)
import_kinds changes p true spec outer name token = λ no. never no
import_kinds changes p false spec outer name token = λ no. never no

importeds_kinds : (changes : List Change) (w : World) (p : Program) (is_type : Bool) (spec : Bytes) (ns : Importeds) (so_far : Bound) → AllTellKind changes so_far.names → AllTellKind changes (bind_importeds w p is_type spec ns so_far).names
importeds_kinds changes w p is_type spec no_imported so_far all = all
importeds_kinds changes w p is_type spec (more_imported ns (imported f t outer name)) so_far all =
    bind_kinds changes w (t - 1) (import_binding p is_type spec (unwrap_or outer name) name (t - 1)) (bind_importeds w p is_type spec ns so_far) (import_kinds changes p is_type spec (unwrap_or outer name) name (t - 1))
    (importeds_kinds changes w p is_type spec ns so_far all)

list_kinds : (changes : List Change) (w : World) (p : Program) (is_type : Bool) (spec : Bytes) (ns : ImportList) (so_far : Bound) → AllTellKind changes so_far.names → AllTellKind changes (bind_list w p is_type spec ns so_far).names
list_kinds changes w p is_type spec (import_list f t ns comma) so_far all = importeds_kinds changes w p is_type spec ns so_far all

default_kinds : (changes : List Change) (w : World) (p : Program) (spec : Bytes) (token : ℕ) (name : Bytes) (so_far : Bound) → AllTellKind changes so_far.names → AllTellKind changes (bind_default w p spec token name so_far).names
default_kinds changes w p spec token name so_far all = bind_kinds changes w token (import_binding p false spec default_name name token) so_far (import_kinds changes p false spec default_name name token) all

import_form_kinds : (changes : List Change) (w : World) (p : Program) (f : ℕ) (spec : Bytes) (form : ImportForm) (so_far : Bound) → AllTellKind changes so_far.names → AllTellKind changes (bind_import w p f spec form so_far).names
import_form_kinds changes w p f spec (import_default name) so_far all = default_kinds changes w p spec (suc f) name so_far all
import_form_kinds changes w p f spec (import_both name ns) so_far all = list_kinds changes w p false spec ns (bind_default w p spec (suc f) name so_far) (default_kinds changes w p spec (suc f) name so_far all)
import_form_kinds changes w p f spec (import_names ns) so_far all = list_kinds changes w p false spec ns so_far all
import_form_kinds changes w p f spec (import_types ns) so_far all = list_kinds changes w p true spec ns so_far all
import_form_kinds changes w p f spec import_only so_far all = all

alias_kinds : (changes : List Change) (w : World) (a : AliasOf) (so_far : Bound) → AllTellKind changes so_far.names → AllTellKind changes (bind_alias w a so_far).names
alias_kinds changes w (alias f t name v) so_far all = bind_kinds changes w (suc f) (top_binding name (suc f) type_name made.Any) so_far (λ no. never no) all

export_kinds : (w : World) (changes : List Change) (form : ExportForm) (so_far : Bound) → AllTellKind changes so_far.names → AllTellKind changes (bind_export w changes form so_far).names
export_kinds w changes (export_declaration d) so_far all = declares_kinds w 0 changes d so_far all
export_kinds w changes (export_function x) so_far all = named_kinds w 0 changes x so_far all
export_kinds w changes (export_alias a) so_far all = alias_kinds changes w a so_far all
export_kinds w changes (export_names is_type ns) so_far all = all
export_kinds w changes (export_from is_type ns spec) so_far all = all
export_kinds w changes (export_default_function x) so_far all = named_kinds w 0 changes x so_far all
export_kinds w changes (export_default e) so_far all = all

item_kinds : (w : World) (p : Program) (changes : List Change) (f : ℕ) (form : ItemForm) (so_far : Bound) → AllTellKind changes so_far.names → AllTellKind changes (bind_item w p changes f form so_far).names
item_kinds w p changes f (imports form spec) so_far all = import_form_kinds changes w p f spec form so_far all
item_kinds w p changes f (exports form) so_far all = export_kinds w changes form so_far all
item_kinds w p changes f (declares_item d) so_far all = declares_kinds w 0 changes d so_far all
item_kinds w p changes f (function_item x) so_far all = named_kinds w 0 changes x so_far all
item_kinds w p changes f (alias_item a) so_far all = alias_kinds changes w a so_far all
item_kinds w p changes f (does_item s) so_far all = all

items_kinds : (w : World) (p : Program) (changes : List Change) (is : Items) (so_far : Bound) → AllTellKind changes so_far.names → AllTellKind changes (bind_items w p changes is so_far).names
items_kinds w p changes no_item so_far all = all
items_kinds w p changes (more_item is (item f t form)) so_far all = item_kinds w p changes f form (bind_items w p changes is so_far) (items_kinds w p changes is so_far all)

both_kinds : (changes : List Change) (names more : List Binding) → AllTellKind changes names → AllTellKind changes more → AllTellKind changes (names ++ more)
both_kinds changes [] more all others = others
both_kinds changes (b ∷ names) more (tells, all) others = (tells, both_kinds changes names more all others)

prelude_kinds : (changes : List Change) → AllTellKind changes prelude
prelude_kinds changes = (λ no. never no, (λ no. never no, (λ no. never no, (λ no. never no, (λ no. never no, tt)))))

pub shared_assigned_inside : SharedIsAssignedInside
shared_assigned_inside = record {
  inner = inner_shared;
  top = λ w p is name b found changes.
      shared_found w (the_items is) (top_env w p is).scope name (top_env w p is).scope.names b
      (both_kinds (changes_of_items is) (bind_items w p (changes_of_items is) is (none_bound no_notes)).names prelude (items_kinds w p (changes_of_items is) is (none_bound no_notes) tt) (prelude_kinds (changes_of_items is))) found changes;
}
