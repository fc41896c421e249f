-- The names of a module, and the tokens at which they are bound.
use Rattle.std.proofs.Common.{◌≡◌, ◌⊎◌, ◌↔◌, ◌≤◌, ◌<◌, ◌+◌, ◌-◌, ℕ, suc, Bool, true, false, List, [], ◌∷◌, ◌++◌, Option, Some, None, inl, inr, refl, sym, ap, ◌∙◌, subst, arith}
use Rattle.std.specs.List.{AllByRecursion}
use Rattle.js_grammar.specs.Code.{Function, function, Declaration, declaration}
use Rattle.js_grammar.specs.CodePlaces.{stop_function}
use Rattle.js_grammar.specs.CodeFits.{FitsDeclaration, FitsFunction}
use Rattle.js_grammar.specs.Items.{imported, Importeds, no_imported, more_imported, ImportList, import_list, ImportForm, import_default, import_both, import_names, import_types, import_only, AliasOf, alias, ExportForm, export_declaration, export_function, export_alias, export_names, export_from, export_default_function, export_default, ItemForm, imports, exports, declares_item, function_item, alias_item, does_item, item, Items, no_item, more_item, FitsImporteds, FitsImportList, FitsImport, FitsAlias, FitsExport, FitsItemForm, FitsItems, stop_begun_imports, stop_importeds, stop_import_list, stop_import, stop_alias, stop_item_form, stop_items}
use Rattle.js_grammar.proofs.Front.{f_ty, f_begun_imports, f_import_list, f_items, f_item_form}
use Rattle.check_values.specs.Rows.{Bytes}
use Rattle.type_values.specs.declared.types.FlowType as made
use Rattle.local_signatures.specs.Scope.{default_name}
use Rattle.typing.specs.Changes.{Change}
use Rattle.typing.specs.Names.{constant, type_name, Binding, Scope, binding_of, number_at, number_of, is_const, is_constant_kind, prelude}
use Rattle.typing.specs.States.{World}
use Rattle.typing.specs.Functions.{Bound, none_bound, bind_declaration, declaration_binding, bind_function, function_binding}
use Rattle.module_errors.specs.Program.{Program}
use Rattle.module_errors.specs.TopNames.{top_binding, import_binding, bind_importeds, bind_list, bind_default, bind_import, bind_alias, bind_export, bind_item, bind_items, changes_of_items}
use Rattle.module_errors.specs.Errors.{no_notes, top_env}
use Rattle.binding_law.specs.Pieces.{Piece, the_items}
use Rattle.binding_law.specs.Ways.{Way}
use Rattle.binding_law.specs.Scopes.{IsReadAlong, FindsSame, IsFound}
use Rattle.binding_law.specs.Placed.{NumbersTellVariables, IsNumberAssigned, SharedNumbersAreAssigned}
use Rattle.binding_law.proofs.Placed.{rises, bump_rises}
use Rattle.binding_law.proofs.Inside.{Between, InItem, InItems, item_range, items_range, declaration_ends, function_ends}
use Rattle.binding_law.proofs.Tokens.{AtToken, AllAt, bind_at}
use Rattle.binding_law.proofs.Sharing.{finds_one, shared_assigned_inside}
use Rattle.binding_law.proofs.Numbered.{number_in, one_token, IsApart, numbers_tell, inner_numbers}

-- ---- the tokens of items

abbrev IsFunctionName : ℕ → Function → ℕ → Type 0
IsFunctionName at (function f t (Some name) s b) i = at ≡ suc i
IsFunctionName at (function f t None s b) i = ⊥

abbrev IsExportName : ℕ → ExportForm → ℕ → Type 0
IsExportName at (export_declaration d) i = at ≡ suc i
IsExportName at (export_function f) i = IsFunctionName at f i
IsExportName at (export_alias a) i = at ≡ suc i
IsExportName at (export_default_function f) i = IsFunctionName at f (suc i)
IsExportName at form i = ⊥

-- the token is one at which an item binds a name
abbrev IsItemName : ℕ → ItemForm → ℕ → Type 0
IsItemName at (imports form spec) i = Between i (stop_item_form (imports form spec) i) at
IsItemName at (exports form) i = IsExportName at form (suc i)
IsItemName at (declares_item d) i = at ≡ suc i
IsItemName at (function_item f) i = IsFunctionName at f i
IsItemName at (alias_item a) i = at ≡ suc i
IsItemName at (does_item s) i = ⊥

abbrev IsTopName : ℕ → Items → ℕ → Type 0
IsTopName at no_item i = ⊥
IsTopName at (more_item is (item f t form)) i = IsTopName at is i ⊎ IsItemName at form (stop_items is i)

function_name_range : (at : ℕ) (f : Function) (i : ℕ) → IsFunctionName at f i → Between i (stop_function f i) at
function_name_range at (function f t None s b) i is = absurd is
function_name_range at (function f t (Some name) s b) i is = let a = function_ends f t (Some name) s b i in (omega arith, omega arith)

alias_ends : (a : AliasOf) (i : ℕ) → suc (suc i) ≤ stop_alias a i
alias_ends (alias f t name v) i = let a = rises (f_ty v) (suc (suc (suc i))) in omega arith

export_name_range : (at : ℕ) (form : ExportForm) (i : ℕ) → IsExportName at form (suc i) → Between i (stop_item_form (exports form) i) at
export_name_range at (export_declaration d) i is = let a = declaration_ends d (suc i) in (omega arith, omega arith)
export_name_range at (export_function f) i is = let found = function_name_range at f (suc i) is in let low = found.0 in (omega arith, found.1)
export_name_range at (export_alias a) i is = let b = alias_ends a (suc i) in (omega arith, omega arith)
export_name_range at (export_names is_type ns) i is = absurd is
export_name_range at (export_from is_type ns spec) i is = absurd is
export_name_range at (export_default_function f) i is = let found = function_name_range at f (suc (suc i)) is in let low = found.0 in (omega arith, found.1)
export_name_range at (export_default e) i is = absurd is

name_range : (at : ℕ) (form : ItemForm) (i : ℕ) → IsItemName at form i → Between i (stop_item_form form i) at
name_range at (imports form spec) i is = is
name_range at (exports form) i is = export_name_range at form i is
name_range at (declares_item d) i is = let a = declaration_ends d i in (omega arith, omega arith)
name_range at (function_item f) i is = function_name_range at f i is
name_range at (alias_item a) i is = let b = alias_ends a i in (omega arith, omega arith)
name_range at (does_item s) i is = absurd is

top_range : (at : ℕ) (is : Items) (i : ℕ) → IsTopName at is i → Between i (stop_items is i) at
top_range at no_item i is = absurd is
top_range at (more_item before (item f t form)) i (inl is) =
    let found = top_range at before i is in
    let low = found.0 in
    let high = found.1 in
    let a = rises (f_item_form form) (stop_items before i) in
    (low, omega arith)
top_range at (more_item before (item f t form)) i (inr is) =
    let found = name_range at form (stop_items before i) is in
    let low = found.0 in
    let a = rises (f_items before) i in
    (omega arith, found.1)

-- ---- apart from what is inside

function_apart : (own at : ℕ) (f : Function) (i : ℕ) → IsFunctionName own f i → InItem at (function_item f) i → own ≡ at → ⊥
function_apart own at (function f t None s b) i is inside same = is
function_apart own at (function f t (Some name) s b) i is (low, high) same = omega arith

export_apart : (own at : ℕ) (form : ExportForm) (i : ℕ) → IsExportName own form (suc i) → InItem at (exports form) i → own ≡ at → ⊥
export_apart own at (export_declaration d) i is (low, high) same = omega arith
export_apart own at (export_function f) i is inside same = function_apart own at f (suc i) is inside same
export_apart own at (export_alias a) i is inside same = inside
export_apart own at (export_names is_type ns) i is inside same = is
export_apart own at (export_from is_type ns spec) i is inside same = is
export_apart own at (export_default_function f) i is inside same = function_apart own at f (suc (suc i)) is inside same
export_apart own at (export_default e) i is inside same = is

item_apart : (own at : ℕ) (form : ItemForm) (i : ℕ) → IsItemName own form i → InItem at form i → own ≡ at → ⊥
item_apart own at (imports form spec) i is inside same = inside
item_apart own at (exports form) i is inside same = export_apart own at form i is inside same
item_apart own at (declares_item d) i is (low, high) same = omega arith
item_apart own at (function_item f) i is inside same = function_apart own at f i is inside same
item_apart own at (alias_item a) i is inside same = inside
item_apart own at (does_item s) i is inside same = is

top_apart : (own at : ℕ) (is : Items) (i : ℕ) → IsTopName own is i → InItems at is i → own ≡ at → ⊥
top_apart own at no_item i is inside same = is
top_apart own at (more_item before (item f t form)) i (inl is) (inl inside) same = top_apart own at before i is inside same
top_apart own at (more_item before (item f t form)) i (inl is) (inr inside) same =
    let a = (top_range own before i is).1 in
    let b = (item_range at form (stop_items before i) inside).0 in
    omega arith
top_apart own at (more_item before (item f t form)) i (inr is) (inl inside) same =
    let a = (name_range own form (stop_items before i) is).0 in
    let b = (items_range at before i inside).1 in
    omega arith
top_apart own at (more_item before (item f t form)) i (inr is) (inr inside) same = item_apart own at form (stop_items before i) is inside same

-- ---- the numbers of names

module _ (P : ℕ → Type 0) (w : World) (p : Program) where
  import_at : (is_type : Bool) (spec outer name : Bytes) (token : ℕ) → P token → AtToken P (import_binding p is_type spec outer name token)
  import_at true spec outer name token holds = (is_constant_kind type_name, token, refl, holds)
  import_at false spec outer name token holds = (is_constant_kind constant, token, refl, holds)

  importeds_at : (is_type : Bool) (spec : Bytes) (ns : Importeds) (i : ℕ) (so_far : Bound) → FitsImporteds ns i → ((token : ℕ) → i ≤ token → token < stop_begun_imports ns i → P token) → AllAt P so_far.names →
      AllAt P (bind_importeds w p is_type spec ns so_far).names
  importeds_at is_type spec no_imported i so_far fits each all = all
  importeds_at is_type spec (more_imported ns (imported f t None name)) i so_far fits each all =
      let k = stop_begun_imports ns i in
      let a = rises (f_begun_imports ns) i in
      let last = fits.1.1 in
      bind_at P w (t - 1) (import_binding p is_type spec name name (t - 1)) (bind_importeds w p is_type spec ns so_far) (import_at is_type spec name name (t - 1) (each (t - 1) (omega arith) (omega arith)))
      (importeds_at is_type spec ns i so_far fits.0 (λ token low high. each token low (omega arith)) all)
  importeds_at is_type spec (more_imported ns (imported f t (Some outer) name)) i so_far fits each all =
      let k = stop_begun_imports ns i in
      let a = rises (f_begun_imports ns) i in
      let last = fits.1.1 in
      bind_at P w (t - 1) (import_binding p is_type spec outer name (t - 1)) (bind_importeds w p is_type spec ns so_far) (import_at is_type spec outer name (t - 1) (each (t - 1) (omega arith) (omega arith)))
      (importeds_at is_type spec ns i so_far fits.0 (λ token low high. each token low (omega arith)) all)

  begun_end : (ns : Importeds) (i : ℕ) → stop_begun_imports ns i ≤ suc (stop_importeds ns i)
  begun_end no_imported i = omega arith
  begun_end (more_imported ns n) i = omega arith

  list_at : (is_type : Bool) (spec : Bytes) (ns : ImportList) (i : ℕ) (so_far : Bound) → FitsImportList ns i → ((token : ℕ) → i ≤ token → token < stop_import_list ns i → P token) → AllAt P so_far.names → AllAt P (bind_list w p is_type spec ns so_far).names
  list_at is_type spec (import_list f t ns c) i so_far fits each all =
      let a = begun_end ns (suc i) in
      let b = bump_rises c (stop_importeds ns (suc i)) in
      importeds_at is_type spec ns (suc i) so_far fits.2 (λ token low high. each token (omega arith) (omega arith)) all

  default_at : (spec : Bytes) (token : ℕ) (name : Bytes) (so_far : Bound) → P token → AllAt P so_far.names → AllAt P (bind_default w p spec token name so_far).names
  default_at spec token name so_far holds all = bind_at P w token (import_binding p false spec default_name name token) so_far (import_at false spec default_name name token holds) all

  import_form_at : (i : ℕ) (spec : Bytes) (form : ImportForm) (so_far : Bound) → FitsImport form (suc i) → ((token : ℕ) → Between i (suc (suc (stop_import form (suc i)))) token → P token) → AllAt P so_far.names →
      AllAt P (bind_import w p i spec form so_far).names
  import_form_at i spec (import_default name) so_far fits each all = default_at spec (suc i) name so_far (each (suc i) (omega arith, omega arith)) all
  import_form_at i spec (import_both name ns) so_far fits each all =
      let a = rises (f_import_list ns) (suc (suc (suc i))) in
      list_at false spec ns (suc (suc (suc i))) (bind_default w p spec (suc i) name so_far) fits.1 (λ token low high. each token (omega arith, omega arith)) (default_at spec (suc i) name so_far (each (suc i) (omega arith, omega arith)) all)
  import_form_at i spec (import_names ns) so_far fits each all = list_at false spec ns (suc i) so_far fits (λ token low high. each token (omega arith, omega arith)) all
  import_form_at i spec (import_types ns) so_far fits each all = list_at true spec ns (suc (suc i)) so_far fits (λ token low high. each token (omega arith, omega arith)) all
  import_form_at i spec import_only so_far fits each all = all

  alias_at : (a : AliasOf) (i : ℕ) (so_far : Bound) → FitsAlias a i → P (suc i) → AllAt P so_far.names → AllAt P (bind_alias w a so_far).names
  alias_at (alias f t name v) i so_far fits holds all =
      bind_at P w (suc f) (top_binding name (suc f) type_name made.Any) so_far (is_constant_kind type_name, suc f, refl, subst P (sym (ap suc fits.0)) holds) all

  declaration_at : (changes : List Change) (d : Declaration) (i : ℕ) (so_far : Bound) → FitsDeclaration d i → P (suc i) → AllAt P so_far.names → AllAt P (bind_declaration w 0 changes d so_far).names
  declaration_at changes (declaration f t binder name annotation e) i so_far fits holds all =
      bind_at P w (suc f) (declaration_binding w 0 changes (declaration f t binder name annotation e)) so_far (is_const binder, suc f, refl, subst P (sym (ap suc fits.0)) holds) all

  function_at : (x : Function) (i : ℕ) (so_far : Bound) → FitsFunction x i → ((token : ℕ) → IsFunctionName token x i → P token) → AllAt P so_far.names → AllAt P (bind_function w 0 x so_far).names
  function_at (function f t None s b) i so_far fits each all = all
  function_at (function f t (Some name) s b) i so_far fits each all = bind_at P w (suc f) (function_binding w 0 (suc f) name s) so_far (true, suc f, refl, each (suc f) (ap suc fits.0)) all

  export_at : (changes : List Change) (form : ExportForm) (i : ℕ) (so_far : Bound) → FitsExport form i → ((token : ℕ) → IsExportName token form i → P token) → AllAt P so_far.names → AllAt P (bind_export w changes form so_far).names
  export_at changes (export_declaration d) i so_far fits each all = declaration_at changes d i so_far fits (each (suc i) refl) all
  export_at changes (export_function x) i so_far fits each all = function_at x i so_far fits.1 each all
  export_at changes (export_alias a) i so_far fits each all = alias_at a i so_far fits (each (suc i) refl) all
  export_at changes (export_names is_type ns) i so_far fits each all = all
  export_at changes (export_from is_type ns spec) i so_far fits each all = all
  export_at changes (export_default_function x) i so_far fits each all = function_at x (suc i) so_far fits each all
  export_at changes (export_default e) i so_far fits each all = all

  item_at : (changes : List Change) (f : ℕ) (form : ItemForm) (i : ℕ) (so_far : Bound) → f ≡ i → FitsItemForm form i → ((token : ℕ) → IsItemName token form i → P token) → AllAt P so_far.names → AllAt P (bind_item w p changes f form so_far).names
  item_at changes f (imports form spec) i so_far here fits each all = subst (λ (k : ℕ). AllAt P (bind_import w p k spec form so_far).names) (sym here) (import_form_at i spec form so_far fits each all)
  item_at changes f (exports form) i so_far here fits each all = export_at changes form (suc i) so_far fits each all
  item_at changes f (declares_item d) i so_far here fits each all = declaration_at changes d i so_far fits (each (suc i) refl) all
  item_at changes f (function_item x) i so_far here fits each all = function_at x i so_far fits.1 each all
  item_at changes f (alias_item a) i so_far here fits each all = alias_at a i so_far fits (each (suc i) refl) all
  item_at changes f (does_item s) i so_far here fits each all = all

  items_at : (changes : List Change) (is : Items) (i : ℕ) (so_far : Bound) → FitsItems is i → ((token : ℕ) → IsTopName token is i → P token) → AllAt P so_far.names → AllAt P (bind_items w p changes is so_far).names
  items_at changes no_item i so_far fits each all = all
  items_at changes (more_item is (item f t form)) i so_far fits each all =
      item_at changes f form (stop_items is i) (bind_items w p changes is so_far) fits.1.0 fits.1.2 (λ token x. each token (inr x)) (items_at changes is i so_far fits.0 (λ token x. each token (inl x)) all)

-- ---- the scope of a module

-- the number is that of no token inside of the items
abbrev Away : Items → Binding → Type 0
Away is b = (constantly : Bool) (token : ℕ) → InItems token is 0 → b.number ≡ number_at constantly token → ⊥

early : (n : ℕ) (constantly : Bool) (token : ℕ) → n < 5 → suc (n + n) ≡ number_at constantly token → ⊥
early n true token below is = omega arith
early n false token below is = omega arith

prelude_away : (is : Items) → AllByRecursion (Away is) prelude
prelude_away is = (
  λ c token inside same. early 0 c token (omega arith) same,
  (λ c token inside same. early 1 c token (omega arith) same, (λ c token inside same. early 2 c token (omega arith) same, (λ c token inside same. early 3 c token (omega arith) same, (λ c token inside same. early 4 c token (omega arith) same, tt)))),
)

all_away : (is : Items) (names more : List Binding) → AllAt (λ token. IsTopName token is 0) names → AllByRecursion (Away is) more → AllByRecursion (Away is) (names ++ more)
all_away is [] more all others = others
all_away is (b ∷ names) more ((constantly, own, number, holds), all) others =
    (λ c token inside same. top_apart own token is 0 holds inside (one_token constantly c own token (sym number ∙ same)), all_away is names more all others)

away_found : (is : Items) (names : List Binding) (name : Bytes) (o : Option Binding) → binding_of names name ≡ o → AllByRecursion (Away is) names → IsApart (the_items is) 0 o
away_found is names name None found all = tt
away_found is names name (Some b) found all = (finds_one (Away is) names name b all found).0

pub numbers_tell_variables : NumbersTellVariables
numbers_tell_variables = record {
  inner = inner_numbers;
  top = λ w p is end way there name fits read.
      (let names = (top_env w p is).scope.names in
      let bound = bind_items w p (changes_of_items is) is (none_bound no_notes) in
      let all = all_away is bound.names prelude (items_at (λ token. IsTopName token is 0) w p (changes_of_items is) is 0 (none_bound no_notes) fits (λ token x. x) tt) (prelude_away is) in
      numbers_tell w (the_items is) end 0 way (top_env w p is).scope there name fits read (away_found is names name (binding_of names name) refl all));
}

-- ---- shared by number

found_numbered : (w : World) (name : Bytes) (b : Binding) (q : Piece) (scope : Scope) → binding_of scope.names name ≡ Some b →
    ((end : Piece) (way : Way q end) (there : Scope) → IsReadAlong w way scope there → FindsSame name scope there ↔ (number_of there name ≡ number_of scope name)) → IsFound w true name q scope ↔ IsNumberAssigned w b.number name q scope
found_numbered w name b q scope found tells =
    let is : number_of scope name ≡ Some b.number = ap (λ (o : Option Binding). number_in o) found in (
      λ a. record { place = a.place; way = a.way; assignment = a.assignment; inside = a.inside; scope = a.scope; read = a.read; finds = (tells a.place a.way a.scope a.read).0 a.same ∙ is },
      λ a. record { place = a.place; way = a.way; assignment = a.assignment; inside = a.inside; scope = a.scope; read = a.read; same = (tells a.place a.way a.scope a.read).1 (a.finds ∙ sym is) },
    )

through : {A B C : Type 0} → A ↔ B → B ↔ C → A ↔ C
through first second = (λ a. second.0 (first.0 a), λ c. first.1 (second.1 c))

pub shared_numbers_assigned : SharedNumbersAreAssigned
shared_numbers_assigned = record {
  inner = λ w p q place outer scope name b fits part entered bound found changes.
      through (shared_assigned_inside.inner w p q outer scope name b part entered bound found changes)
      (found_numbered w name b q scope found (λ end way there read. inner_numbers w p q end place way outer scope there name fits part entered bound read));
  top = λ w p is name b fits found changes.
      through (shared_assigned_inside.top w p is name b found changes)
      (found_numbered w name b (the_items is) (top_env w p is).scope found (λ end way there read. numbers_tell_variables.top w p is end way there name fits read));
}
