-- What is bound and changed, item by item.
use Rattle.std.proofs.Common.{◌≡◌, ℕ, ◌+◌, ◌<◌, ◌≤◌, Bool, List, [], ◌++◌, length, take, get_or, sym, ap, ap₂, ◌∙◌, arith}
use Rattle.check_values.specs.Rows.{Bytes}
use Rattle.js_grammar.specs.Items as g
use Rattle.js_grammar.specs.Items.{no_imported, more_imported}
use Rattle.js_tree.specs.View.{imported_view, importeds_view, item_form_view, items_view}
use Rattle.js_tree.specs.declared.items.Imported.{Imported}
use Rattle.js_tree.specs.declared.items.Item.{Item}
use Rattle.scopes.specs.View.{names_in, names_since, scope_view, IsTop, IsHeight}
use Rattle.scopes.specs.declared.row.Height.{Height}
use Rattle.scopes.specs.declared.scope.Scope.{Scope}
use Rattle.check_world.specs.View.{notes_view}
use Rattle.check_world.specs.declared.notes.Notes as own
use Rattle.code_changes.specs.View.{changes_view}
use Rattle.code_changes.specs.declared.change.Change as own_change
use Rattle.typing.specs.Changes.{Change}
use Rattle.typing.specs.Names.{Binding}
use Rattle.typing.specs.States.{World}
use Rattle.typing.specs.Functions.{Bound, none_bound}
use Rattle.module_errors.specs.Program.{Program}
use Rattle.module_errors.specs.TopNames.{bind_importeds, bind_item, bind_items, changes_of_item, changes_of_items}
use Rattle.binders.specs.View.{bound_since, Binds}
use Rattle.check_items.specs.View.{bound_over}
use Rattle.check_items.proofs.InOrder.{importeds_none, importeds_more, importeds_all, items_none, items_more, items_all}

-- ---- what items may change

pub changes_none : (changes : List own_change.Change) → changes ≡ [] → changes_view changes ≡ changes_of_items (items_view [])
unfolding changes_view
changes_none changes none = ap changes_view none ∙ sym (ap changes_of_items items_none)

pub changes_next : (xs : List Item) (i : ℕ) (x : Item) (before after : List Change) → i < length xs → x ≡ get_or xs i x → after ≡ before ++ changes_of_item (item_form_view x.form) →
    before ≡ changes_of_items (items_view (take i xs)) → after ≡ changes_of_items (items_view (take (i + 1) xs))
changes_next xs i x before after within at adds so_far =
    adds ∙ ap (λ (l : List Change). l ++ changes_of_item (item_form_view x.form)) so_far ∙ sym (ap changes_of_items (items_more xs i x within at))

-- ---- imported names

module _ (w : World) (p : Program) (is_type : Bool) (spec : Bytes) where
  pub listed_bound_none : (b : Bound) → b ≡ bind_importeds w p is_type spec (importeds_view []) b
  listed_bound_none b = sym (ap (λ (ns : g.Importeds). bind_importeds w p is_type spec ns b) importeds_none)

  pub listed_bound_next : (xs : List Imported) (i : ℕ) (x : Imported) (first before after : Bound) → i < length xs → x ≡ get_or xs i x →
      after ≡ bind_importeds w p is_type spec (more_imported no_imported (imported_view x)) before → before ≡ bind_importeds w p is_type spec (importeds_view (take i xs)) first →
      after ≡ bind_importeds w p is_type spec (importeds_view (take (i + 1) xs)) first
  listed_bound_next xs i x first before after within at binds so_far =
      binds ∙ ap (bind_importeds w p is_type spec (more_imported no_imported (imported_view x))) so_far
      ∙ sym (ap (λ (ns : g.Importeds). bind_importeds w p is_type spec ns first) (importeds_more xs i x within at))

  pub listed_bound_all : (xs all : List Imported) (i : ℕ) (first after : Bound) → length xs ≤ i → xs ≡ all → after ≡ bind_importeds w p is_type spec (importeds_view (take i xs)) first →
      after ≡ bind_importeds w p is_type spec (importeds_view all) first
  listed_bound_all xs all i first after long same is = is ∙ ap (λ (ns : g.Importeds). bind_importeds w p is_type spec ns first) (importeds_all xs i long ∙ ap importeds_view same)

-- ---- items

pub top_height : (height : Height) (s : Scope) → IsTop height s → IsHeight height s
top_height height s (rows, changes) = (omega (arith, rows), omega (arith, changes))

module _ (w : World) (p : Program) (changes : List Change) where
  pub items_bound_none : (b : Bound) → b ≡ bind_items w p changes (items_view []) b
  items_bound_none b = sym (ap (λ (is : g.Items). bind_items w p changes is b) items_none)

  pub items_bound_next : (xs : List Item) (i : ℕ) (x : Item) (first before after : Bound) → i < length xs → x ≡ get_or xs i x → after ≡ bind_item w p changes x.first (item_form_view x.form) before →
      before ≡ bind_items w p changes (items_view (take i xs)) first → after ≡ bind_items w p changes (items_view (take (i + 1) xs)) first
  items_bound_next xs i x first before after within at binds so_far =
      binds ∙ ap (bind_item w p changes x.first (item_form_view x.form)) so_far ∙ sym (ap (λ (is : g.Items). bind_items w p changes is first) (items_more xs i x within at))

  -- behind the names that were there
  pub items_bound_all : (xs : List Item) (i : ℕ) (since : Height) (old new : Scope) (n m : own.Notes) → length xs ≤ i → names_since since old ≡ [] → Binds since old new →
      bound_since since new m ≡ bind_items w p changes (items_view (take i xs)) (bound_since since old n) →
      bound_over (scope_view old) (scope_view new) m (bind_items w p changes (items_view xs) (none_bound (notes_view n)))
  items_bound_all xs i since old new n m long none binds is = (λ k. record { names = names k; depth = binds.depth k; result = binds.result k }, ap (λ (b : Bound). b.notes) bound)
    where
      begun : bound_since since old n ≡ none_bound (notes_view n)
      begun = λ k. record { names = none k; notes = notes_view n }

      bound : bound_since since new m ≡ bind_items w p changes (items_view xs) (none_bound (notes_view n))
      bound = is ∙ ap₂ (λ (is : g.Items) (b : Bound). bind_items w p changes is b) (items_all xs i long) begun

      names : names_in new ≡ (bind_items w p changes (items_view xs) (none_bound (notes_view n))).names ++ names_in old
      names =
          binds.names (names_in old) (sym (ap (λ (l : List Binding). l ++ names_in old) none)) ∙ ap (λ (b : Bound). b.names ++ names_in old) bound
