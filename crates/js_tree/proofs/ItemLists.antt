-- The lists of a module grow at their end; here they are spelled in order.
use Rattle.std.proofs.Common.{◌≡◌, refl, List, map}
use Rattle.js_token.specs.declared.token.TokenKind.TheVariants.{Punct}
use Rattle.js_token.specs.declared.punct.Punct.TheVariants.{Comma}
use Rattle.js_grammar.specs.Items as g
use Rattle.js_grammar.specs.Items.{spell_imported, spell_begun_imports, spell_importeds, spell_exported, spell_begun_exports, spell_exporteds, spell_item, spell_items}
use Rattle.js_grammar.specs.TypeSpelling.{Tokens}
use Rattle.js_tree.specs.View.{imported_view, importeds_from, importeds_view, exported_view, exporteds_from, exporteds_view, item_view, items_from, items_view}
use Rattle.js_tree.specs.declared.items.Imported.{Imported}
use Rattle.js_tree.specs.declared.items.Exported.{Exported}
use Rattle.js_tree.specs.declared.items.Item.{Item}
use Rattle.js_tree.proofs.Lists.{each, each_in_order, listed, listed_in_order}

abbrev pub import_name : Imported → Tokens → Tokens
import_name n = spell_imported (imported_view n)

pub importeds_in_order : (ns : List Imported) (l : Tokens) → listed (Punct Comma) import_name ns l ≡ spell_importeds (importeds_view ns) l
unfolding importeds_view
importeds_in_order = listed_in_order (λ acc xs. importeds_from acc (map imported_view xs)) (λ acc. refl) (λ acc x xs. refl) g.no_imported spell_importeds (λ l. refl) import_name (Punct Comma) spell_begun_imports (λ l. refl) (λ acc x l. refl) (λ acc x l. refl)

abbrev pub export_name : Exported → Tokens → Tokens
export_name n = spell_exported (exported_view n)

pub exporteds_in_order : (ns : List Exported) (l : Tokens) → listed (Punct Comma) export_name ns l ≡ spell_exporteds (exporteds_view ns) l
unfolding exporteds_view
exporteds_in_order = listed_in_order (λ acc xs. exporteds_from acc (map exported_view xs)) (λ acc. refl) (λ acc x xs. refl) g.no_exported spell_exporteds (λ l. refl) export_name (Punct Comma) spell_begun_exports (λ l. refl) (λ acc x l. refl) (λ acc x l. refl)

abbrev pub item : Item → Tokens → Tokens
item i = spell_item (item_view i)

pub items_in_order : (is : List Item) (l : Tokens) → each item is l ≡ spell_items (items_view is) l
unfolding items_view
items_in_order = each_in_order (λ acc xs. items_from acc (map item_view xs)) (λ acc. refl) (λ acc x xs. refl) g.no_item spell_items (λ l. refl) item (λ acc x l. refl)

pub ruleset item_lists = (importeds_in_order, exporteds_in_order, items_in_order)
