-- The lists of a module's tree grow at their end; here they are read in order.
use Rattle.std.proofs.Common.{◌≡◌, ℕ, ◌+◌, ◌<◌, ◌≤◌, List, [], length, take, get_or, refl, ap}
use Rattle.std.proofs.lemmas.List.{take_all}
use Rattle.js_grammar.specs.Items.{no_imported, more_imported, no_exported, more_exported, no_item, more_item}
use Rattle.js_tree.specs.View.{imported_view, importeds_from, importeds_view, exported_view, exporteds_from, exporteds_view, item_view, items_from, items_view}
use Rattle.js_tree.specs.declared.items.Imported.{Imported}
use Rattle.js_tree.specs.declared.items.Exported.{Exported}
use Rattle.js_tree.specs.declared.items.Item.{Item}
use Rattle.binders.proofs.InOrder.{more_from}

-- ---- imported names

pub importeds_none : importeds_view [] ≡ no_imported
unfolding importeds_view
importeds_none = refl

pub importeds_more : (xs : List Imported) (i : ℕ) (x : Imported) → i < length xs → x ≡ get_or xs i x → importeds_view (take (i + 1) xs) ≡ more_imported (importeds_view (take i xs)) (imported_view x)
unfolding importeds_view
importeds_more xs i x within at = more_from imported_view more_imported importeds_from (λ l. refl) (λ l v vs. refl) no_imported xs i x within at

pub importeds_all : (xs : List Imported) (i : ℕ) → length xs ≤ i → importeds_view (take i xs) ≡ importeds_view xs
importeds_all xs i long = ap importeds_view (take_all i xs long)

-- ---- exported names

pub exporteds_none : exporteds_view [] ≡ no_exported
unfolding exporteds_view
exporteds_none = refl

pub exporteds_more : (xs : List Exported) (i : ℕ) (x : Exported) → i < length xs → x ≡ get_or xs i x → exporteds_view (take (i + 1) xs) ≡ more_exported (exporteds_view (take i xs)) (exported_view x)
unfolding exporteds_view
exporteds_more xs i x within at = more_from exported_view more_exported exporteds_from (λ l. refl) (λ l v vs. refl) no_exported xs i x within at

pub exporteds_all : (xs : List Exported) (i : ℕ) → length xs ≤ i → exporteds_view (take i xs) ≡ exporteds_view xs
exporteds_all xs i long = ap exporteds_view (take_all i xs long)

-- ---- items

pub items_none : items_view [] ≡ no_item
unfolding items_view
items_none = refl

pub items_more : (xs : List Item) (i : ℕ) (x : Item) → i < length xs → x ≡ get_or xs i x → items_view (take (i + 1) xs) ≡ more_item (items_view (take i xs)) (item_view x)
unfolding items_view
items_more xs i x within at = more_from item_view more_item items_from (λ l. refl) (λ l v vs. refl) no_item xs i x within at

pub items_all : (xs : List Item) (i : ℕ) → length xs ≤ i → items_view (take i xs) ≡ items_view xs
items_all xs i long = ap items_view (take_all i xs long)
