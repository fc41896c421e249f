-- The tree of a module that a value of the code stands for.
use Rattle.std.specs.Prelude.{List, [], ◌∷◌, map}
use Rattle.js_grammar.specs.Items as g
use Rattle.js_grammar.specs.Items.{Importeds, no_imported, more_imported, Exporteds, no_exported, more_exported, Items, no_item, more_item}
use Rattle.type_tree.specs.View.{type_view}
use Rattle.code_tree.specs.View.{expr_view, function_view, declaration_view, simple_view}
use Rattle.js_tree.specs.declared.items.Imported.{Imported}
use Rattle.js_tree.specs.declared.items.ImportList.{ImportList}
use Rattle.js_tree.specs.declared.items.Exported.{Exported}
use Rattle.js_tree.specs.declared.items.ExportList.{ExportList}
use Rattle.js_tree.specs.declared.items.ImportForm.{ImportForm}
use Rattle.js_tree.specs.declared.items.ImportForm.TheVariants as import
use Rattle.js_tree.specs.declared.items.Alias.{Alias}
use Rattle.js_tree.specs.declared.items.ExportForm.{ExportForm}
use Rattle.js_tree.specs.declared.items.ExportForm.TheVariants as export
use Rattle.js_tree.specs.declared.items.Item.{Item}
use Rattle.js_tree.specs.declared.items.ItemForm.{ItemForm}
use Rattle.js_tree.specs.declared.items.ItemForm.TheVariants as item
use Rattle.js_tree.specs.declared.items.Module.{Module}

-- each node of a module, as the grammar has it
abbrev pub imported_view : Imported → g.Imported
imported_view n = g.imported n.first n.end n.renamed n.name

abbrev pub exported_view : Exported → g.Exported
exported_view n = g.exported n.first n.end n.name n.renamed

-- imported names in order, behind those before
abbrev pub importeds_from : Importeds → List g.Imported → Importeds
importeds_from acc [] = acc
importeds_from acc (n ∷ ns) = importeds_from (more_imported acc n) ns

-- exported names in order, behind those before
abbrev pub exporteds_from : Exporteds → List g.Exported → Exporteds
exporteds_from acc [] = acc
exporteds_from acc (n ∷ ns) = exporteds_from (more_exported acc n) ns

unfoldable pub importeds_view : List Imported → Importeds
importeds_view ns = importeds_from no_imported (map imported_view ns)

unfoldable pub exporteds_view : List Exported → Exporteds
exporteds_view ns = exporteds_from no_exported (map exported_view ns)

abbrev pub import_list_view : ImportList → g.ImportList
import_list_view l = g.import_list l.first l.end (importeds_view l.names) l.comma

abbrev pub export_list_view : ExportList → g.ExportList
export_list_view l = g.export_list l.first l.end (exporteds_view l.names) l.comma

abbrev pub import_form_view : ImportForm → g.ImportForm
import_form_view (import.Default n) = g.import_default n
import_form_view (import.Both n l) = g.import_both n (import_list_view l)
import_form_view (import.Names l) = g.import_names (import_list_view l)
import_form_view (import.Types l) = g.import_types (import_list_view l)
import_form_view import.Only = g.import_only

abbrev pub alias_view : Alias → g.AliasOf
alias_view a = g.alias a.first a.end a.name (type_view a.ty)

abbrev pub export_form_view : ExportForm → g.ExportForm
export_form_view (export.Declaration d) = g.export_declaration (declaration_view d)
export_form_view (export.Function f) = g.export_function (function_view f)
export_form_view (export.Alias a) = g.export_alias (alias_view a)
export_form_view (export.Names o l) = g.export_names o (export_list_view l)
export_form_view (export.From o l s) = g.export_from o (export_list_view l) s
export_form_view (export.DefaultFunction f) = g.export_default_function (function_view f)
export_form_view (export.Default e) = g.export_default (expr_view e)

abbrev pub item_form_view : ItemForm → g.ItemForm
item_form_view (item.Import i s) = g.imports (import_form_view i) s
item_form_view (item.Export e) = g.exports (export_form_view e)
item_form_view (item.Declaration d) = g.declares_item (declaration_view d)
item_form_view (item.Function f) = g.function_item (function_view f)
item_form_view (item.Alias a) = g.alias_item (alias_view a)
item_form_view (item.Simple s) = g.does_item (simple_view s)

abbrev pub item_view : Item → g.Item
item_view i = g.item i.first i.end (item_form_view i.form)

-- items in order, behind those before
abbrev pub items_from : Items → List g.Item → Items
items_from acc [] = acc
items_from acc (i ∷ is) = items_from (more_item acc i) is

unfoldable pub items_view : List Item → Items
items_view is = items_from no_item (map item_view is)

-- the tree of the grammar for which a module stands
abbrev pub module_view : Module → g.Module
module_view m = g.module_of m.first m.end (items_view m.items)
