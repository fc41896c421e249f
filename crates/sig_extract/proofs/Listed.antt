-- The lists of a tree grow at their end; here they are read in order.
use Rattle.std.proofs.Common.{◌≡◌, ℕ, ◌≤◌, Bool, List, [], ◌∷◌, ◌++◌, map, length, take, refl, sym, ap, ◌∙◌, append_assoc, append-nil}
use Rattle.std.proofs.lemmas.List.{take_all}
use Rattle.std.specs.List.{flat_map}
use Rattle.check_values.specs.Rows.{Bytes, Rows}
use Rattle.js_grammar.specs.Items as g
use Rattle.js_grammar.specs.Items.{Importeds, no_imported, more_imported, Exporteds, no_exported, more_exported, Items, no_item, more_item}
use Rattle.js_tree.specs.View.{imported_view, exported_view, importeds_view, importeds_from, exporteds_view, exporteds_from, item_view, items_view}
use Rattle.js_tree.specs.View as view
use Rattle.js_tree.specs.declared.items.Imported.{Imported}
use Rattle.js_tree.specs.declared.items.Exported.{Exported}
use Rattle.js_tree.specs.declared.items.Item.{Item}
use Rattle.local_signatures.specs.Scope.{Binding, bound_imported, bound_importeds, items_from}
use Rattle.local_signatures.specs.Exports.{Told, told_listed}
use Rattle.sig_extract.specs.Seen.{listed}

module _ (is_type : Bool) (spec : Bytes) where
  bound_from : (acc : Importeds) (ns : List Imported) → bound_importeds is_type spec (importeds_from acc (map imported_view ns)) ≡ bound_importeds is_type spec acc ++ flat_map (λ n. bound_imported is_type spec (imported_view n)) ns
  bound_from acc [] = sym (append-nil _)
  bound_from acc (n ∷ ns) = bound_from (more_imported acc (imported_view n)) ns ∙ append_assoc (bound_importeds is_type spec acc) (bound_imported is_type spec (imported_view n)) (flat_map (λ n. bound_imported is_type spec (imported_view n)) ns)

  pub bound_in_order : (ns : List Imported) → bound_importeds is_type spec (importeds_view ns) ≡ flat_map (λ n. bound_imported is_type spec (imported_view n)) ns
  unfolding importeds_view
  bound_in_order ns = bound_from no_imported ns

  -- once all were read
  pub bound_all : (ns : List Imported) (i : ℕ) (before after : Rows Binding) → length ns ≤ i → after ≡ before ++ flat_map (λ n. bound_imported is_type spec (imported_view n)) (take i ns) → after ≡ before ++ bound_importeds is_type spec (importeds_view ns)
  bound_all ns i before after all is = is ∙ ap (λ (l : Rows Binding). before ++ l) (ap (flat_map (λ n. bound_imported is_type spec (imported_view n))) (take_all i ns all) ∙ sym (bound_in_order ns))

module _ (tells : Bytes → Told) where
  told_from : (acc : Exporteds) (ns : List Exported) → told_listed tells (exporteds_from acc (map exported_view ns)) ≡ told_listed tells acc ++ flat_map (listed tells) ns
  told_from acc [] = sym (append-nil _)
  told_from acc (n ∷ ns) = told_from (more_exported acc (exported_view n)) ns ∙ append_assoc (told_listed tells acc) (listed tells n) (flat_map (listed tells) ns)

  pub told_in_order : (ns : List Exported) → told_listed tells (exporteds_view ns) ≡ flat_map (listed tells) ns
  unfolding exporteds_view
  told_in_order ns = told_from no_exported ns

  -- once all were read
  pub told_all : (ns : List Exported) (i : ℕ) (before after : Rows Told) → length ns ≤ i → after ≡ before ++ flat_map (listed tells) (take i ns) → after ≡ before ++ told_listed tells (exporteds_view ns)
  told_all ns i before after all is = is ∙ ap (λ (l : Rows Told). before ++ l) (ap (flat_map (listed tells)) (take_all i ns all) ∙ sym (told_in_order ns))

items_listed : (acc : Items) (is : List Item) → items_from (view.items_from acc (map item_view is)) ≡ items_from acc ++ map item_view is
items_listed acc [] = sym (append-nil _)
items_listed acc (i ∷ is) = items_listed (more_item acc (item_view i)) is ∙ append_assoc (items_from acc) (item_view i ∷ []) (map item_view is)

items_in_order : (is : List Item) → items_from (items_view is) ≡ map item_view is
unfolding items_view
items_in_order is = items_listed no_item is

flat-map : {A B C : Type 0} (f : B → List C) (h : A → B) (xs : List A) → flat_map f (map h xs) ≡ flat_map (λ x. f (h x)) xs
flat-map f h [] = refl
flat-map {A} {B} {C} f h (x ∷ xs) = ap (λ (l : List C). f (h x) ++ l) (flat-map f h xs)

-- what each item gives, in the order of a module's tree
pub each_item : {C : Type 0} (f : g.Item → List C) (is : List Item) → flat_map (λ item. f (item_view item)) is ≡ flat_map f (items_from (items_view is))
each_item f is = sym (ap (flat_map f) (items_in_order is) ∙ flat-map f item_view is)
