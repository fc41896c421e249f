-- What is noted of lists of names, name by name.
use Rattle.std.proofs.Common.{◌≡◌, ℕ, ◌+◌, ◌<◌, ◌≤◌, Bool, true, false, List, [], length, take, get_or, Option, Some, None, unwrap_or, refl, sym, ap, ◌∙◌}
use Rattle.check_values.specs.Rows.{Bytes, row_at}
use Rattle.check_values.specs.declared.codes.Code.{Code}
use Rattle.check_world.specs.View.{fault_code, world_view}
use Rattle.js_grammar.specs.Items as g
use Rattle.js_tree.specs.View.{importeds_view, exporteds_view}
use Rattle.js_tree.specs.declared.items.Imported.{Imported}
use Rattle.js_tree.specs.declared.items.Exported.{Exported}
use Rattle.local_signatures.specs.Scope as home
use Rattle.local_signatures.specs.Scope.{scope_of, bound_import, bound_variable, bound_function, bound_alias}
use Rattle.typing.specs.States.{World, Notes}
use Rattle.module_errors.specs.Program.{Program, type_bound}
use Rattle.module_errors.specs.Items.{wrong_at, imported_read, importeds_read, handed_on, exporteds_read, wrong_export}
use Rattle.check_items.specs.View.{NamesTypes, Sees, wrong_by}
use Rattle.check_items.specs.declared.items.Module.{Module}
use Rattle.check_items.proofs.InOrder.{importeds_none, importeds_more, importeds_all, exporteds_none, exporteds_more, exporteds_all}

module _ (w : World) (p : Program) (is_type : Bool) (spec : Bytes) where
  -- imported names
  pub imported_none : (n : Notes) → n ≡ importeds_read w p is_type spec (importeds_view []) n
  imported_none n = sym (ap (λ (ns : g.Importeds). importeds_read w p is_type spec ns n) importeds_none)

  pub imported_next : (xs : List Imported) (i : ℕ) (x : Imported) (first before after : Notes) → i < length xs → x ≡ get_or xs i x → after ≡ imported_read w p is_type spec x.first (unwrap_or x.renamed x.name) before →
      before ≡ importeds_read w p is_type spec (importeds_view (take i xs)) first → after ≡ importeds_read w p is_type spec (importeds_view (take (i + 1) xs)) first
  imported_next xs i x first before after within at is so_far =
      is ∙ ap (imported_read w p is_type spec x.first (unwrap_or x.renamed x.name)) so_far ∙ sym (ap (λ (ns : g.Importeds). importeds_read w p is_type spec ns first) (importeds_more xs i x within at))

  pub imported_all : (xs all : List Imported) (i : ℕ) (first after : Notes) → length xs ≤ i → xs ≡ all → after ≡ importeds_read w p is_type spec (importeds_view (take i xs)) first → after ≡ importeds_read w p is_type spec (importeds_view all) first
  imported_all xs all i first after long same is = is ∙ ap (λ (ns : g.Importeds). importeds_read w p is_type spec ns first) (importeds_all xs i long ∙ ap importeds_view same)

  -- names that are handed on
  pub handed_none : (n : Notes) → n ≡ handed_on w p is_type spec (exporteds_view []) n
  handed_none n = sym (ap (λ (ns : g.Exporteds). handed_on w p is_type spec ns n) exporteds_none)

  pub handed_next : (xs : List Exported) (i : ℕ) (x : Exported) (first before after : Notes) → i < length xs → x ≡ get_or xs i x → after ≡ imported_read w p is_type spec x.first x.name before →
      before ≡ handed_on w p is_type spec (exporteds_view (take i xs)) first → after ≡ handed_on w p is_type spec (exporteds_view (take (i + 1) xs)) first
  handed_next xs i x first before after within at is so_far =
      is ∙ ap (imported_read w p is_type spec x.first x.name) so_far ∙ sym (ap (λ (ns : g.Exporteds). handed_on w p is_type spec ns first) (exporteds_more xs i x within at))

  pub handed_all : (xs all : List Exported) (i : ℕ) (first after : Notes) → length xs ≤ i → xs ≡ all → after ≡ handed_on w p is_type spec (exporteds_view (take i xs)) first → after ≡ handed_on w p is_type spec (exporteds_view all) first
  handed_all xs all i first after long same is = is ∙ ap (λ (ns : g.Exporteds). handed_on w p is_type spec ns first) (exporteds_all xs i long ∙ ap exporteds_view same)

-- names that the module exports of its own
module _ (w : World) (top : home.Scope) (is_type : Bool) where
  pub exported_none : (n : Notes) → n ≡ exporteds_read w top is_type (exporteds_view []) n
  exported_none n = sym (ap (λ (ns : g.Exporteds). exporteds_read w top is_type ns n) exporteds_none)

  pub exported_next : (xs : List Exported) (i : ℕ) (x : Exported) (first before after : Notes) → i < length xs → x ≡ get_or xs i x → after ≡ wrong_at w x.first x.name (wrong_export is_type (row_at top x.name)) before →
      before ≡ exporteds_read w top is_type (exporteds_view (take i xs)) first → after ≡ exporteds_read w top is_type (exporteds_view (take (i + 1) xs)) first
  exported_next xs i x first before after within at is so_far =
      is ∙ ap (wrong_at w x.first x.name (wrong_export is_type (row_at top x.name))) so_far ∙ sym (ap (λ (ns : g.Exporteds). exporteds_read w top is_type ns first) (exporteds_more xs i x within at))

  pub exported_all : (xs all : List Exported) (i : ℕ) (first after : Notes) → length xs ≤ i → xs ≡ all → after ≡ exporteds_read w top is_type (exporteds_view (take i xs)) first → after ≡ exporteds_read w top is_type (exporteds_view all) first
  exported_all xs all i first after long same is = is ∙ ap (λ (ns : g.Exporteds). exporteds_read w top is_type ns first) (exporteds_all xs i long ∙ ap exporteds_view same)

-- what is wrong with an export, by the fault of its name as a type
pub wrong_told : (w : World) (top : home.Scope) (is_type : Bool) (name : Bytes) (fault wrong : Option Code) → wrong ≡ wrong_by is_type fault → fault ≡ fault_code (w.type_meaning name) → NamesTypes w top →
    wrong ≡ wrong_export is_type (row_at top name)
wrong_told w top is_type name fault wrong is told types = is ∙ ap (wrong_by is_type) (told ∙ ap fault_code (types.means name)) ∙ go is_type (row_at top name)
  where
    go : (b : Bool) (o : Option home.Binding) → wrong_by b (fault_code (type_bound types.path types.deps types.sigs name o)) ≡ wrong_export b o
    go true None = refl
    go false None = refl
    go true (Some (bound_alias t)) = refl
    go false (Some (bound_alias t)) = refl
    go true (Some (bound_import spec outer true)) = refl
    go false (Some (bound_import spec outer true)) = refl
    go true (Some (bound_import spec outer false)) = refl
    go false (Some (bound_import spec outer false)) = refl
    go true (Some (bound_variable d)) = refl
    go false (Some (bound_variable d)) = refl
    go true (Some (bound_function f)) = refl
    go false (Some (bound_function f)) = refl

-- of a name of the module
pub exported_told : (w : World) (top : home.Scope) (is_type : Bool) (token : ℕ) (name : Bytes) (wrong : Option Code) (before after : Notes) → NamesTypes w top → ((top : home.Scope) → NamesTypes w top → wrong ≡ wrong_export is_type (row_at top name)) →
    after ≡ wrong_at w token name wrong before → after ≡ wrong_at w token name (wrong_export is_type (row_at top name)) before
exported_told w top is_type token name wrong before after types told noted = noted ∙ ap (λ (o : Option Code). wrong_at w token name o before) (told top types)

-- what is seen of a program tells which names are types
pub sees_types : (around : Module) (p : Program) (m : g.Module) → Sees around p m → NamesTypes (world_view around.world.now) (scope_of m)
sees_types around p m sees = record { path = p.path; deps = p.deps; sigs = p.sigs; means = sees.meaning }
