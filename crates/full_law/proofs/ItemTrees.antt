-- Each item and each module of the grammar is what some value of the code stands for.
use Rattle.std.proofs.Common.{[], map, refl, ap}
use Rattle.js_grammar.specs.Items as g
use Rattle.js_grammar.specs.Items.{Importeds, no_imported, more_imported, Exporteds, no_exported, more_exported, Items, no_item, more_item}
use Rattle.js_tree.specs.View.{imported_view, exported_view, importeds_from, exporteds_from, importeds_view, exporteds_view, import_list_view, export_list_view, import_form_view, alias_view, export_form_view, item_form_view, item_view, items_from, items_view}
use Rattle.js_tree.specs.declared.items.ImportForm.TheVariants as import
use Rattle.js_tree.specs.declared.items.ExportForm.TheVariants as export
use Rattle.js_tree.specs.declared.items.ItemForm.TheVariants as item
use Rattle.full_law.specs.Trees.{EachModuleHasATree}
use Rattle.full_law.proofs.Lists.{Seen, one_more}
use Rattle.full_law.proofs.TypeTrees.{type_tree}
use Rattle.full_law.proofs.CodeTrees.{expr_tree, function_tree, declaration_tree, simple_tree}

imported_tree : (n : g.Imported) → Seen imported_view n
imported_tree (g.imported f e r n) = (record { first = f; end = e; renamed = r; name = n }, refl)

exported_tree : (n : g.Exported) → Seen exported_view n
exported_tree (g.exported f e n r) = (record { first = f; end = e; name = n; renamed = r }, refl)

importeds_tree : (l : Importeds) → Seen (λ xs. importeds_from no_imported (map imported_view xs)) l
importeds_tree no_imported = ([], refl)
importeds_tree (more_imported l x) = one_more more_imported importeds_from (λ acc. refl) (λ acc a rest. refl) imported_view no_imported l x (importeds_tree l) (imported_tree x)

exporteds_tree : (l : Exporteds) → Seen (λ xs. exporteds_from no_exported (map exported_view xs)) l
exporteds_tree no_exported = ([], refl)
exporteds_tree (more_exported l x) = one_more more_exported exporteds_from (λ acc. refl) (λ acc a rest. refl) exported_view no_exported l x (exporteds_tree l) (exported_tree x)

import_list_tree : (l : g.ImportList) → Seen import_list_view l
unfolding importeds_view
import_list_tree (g.import_list f e ns c) = let names = importeds_tree ns in (record { first = f; end = e; names = names.0; comma = c }, ap (λ l. g.import_list f e l c) names.1)

export_list_tree : (l : g.ExportList) → Seen export_list_view l
unfolding exporteds_view
export_list_tree (g.export_list f e ns c) = let names = exporteds_tree ns in (record { first = f; end = e; names = names.0; comma = c }, ap (λ l. g.export_list f e l c) names.1)

import_form_tree : (i : g.ImportForm) → Seen import_form_view i
import_form_tree (g.import_default n) = (import.Default n, refl)
import_form_tree (g.import_both n l) = let inner = import_list_tree l in (import.Both n inner.0, ap (g.import_both n) inner.1)
import_form_tree (g.import_names l) = let inner = import_list_tree l in (import.Names inner.0, ap g.import_names inner.1)
import_form_tree (g.import_types l) = let inner = import_list_tree l in (import.Types inner.0, ap g.import_types inner.1)
import_form_tree g.import_only = (import.Only, refl)

alias_tree : (a : g.AliasOf) → Seen alias_view a
alias_tree (g.alias f e n t) = let inner = type_tree t in (record { first = f; end = e; name = n; ty = inner.0 }, ap (g.alias f e n) inner.1)

export_form_tree : (e : g.ExportForm) → Seen export_form_view e
export_form_tree (g.export_declaration d) = let inner = declaration_tree d in (export.Declaration inner.0, ap g.export_declaration inner.1)
export_form_tree (g.export_function f) = let inner = function_tree f in (export.Function inner.0, ap g.export_function inner.1)
export_form_tree (g.export_alias a) = let inner = alias_tree a in (export.Alias inner.0, ap g.export_alias inner.1)
export_form_tree (g.export_names o l) = let inner = export_list_tree l in (export.Names o inner.0, ap (g.export_names o) inner.1)
export_form_tree (g.export_from o l s) = let inner = export_list_tree l in (export.From o inner.0 s, ap (λ k. g.export_from o k s) inner.1)
export_form_tree (g.export_default_function f) = let inner = function_tree f in (export.DefaultFunction inner.0, ap g.export_default_function inner.1)
export_form_tree (g.export_default e) = let inner = expr_tree e in (export.Default inner.0, ap g.export_default inner.1)

item_form_tree : (i : g.ItemForm) → Seen item_form_view i
item_form_tree (g.imports i s) = let inner = import_form_tree i in (item.Import inner.0 s, ap (λ k. g.imports k s) inner.1)
item_form_tree (g.exports e) = let inner = export_form_tree e in (item.Export inner.0, ap g.exports inner.1)
item_form_tree (g.declares_item d) = let inner = declaration_tree d in (item.Declaration inner.0, ap g.declares_item inner.1)
item_form_tree (g.function_item f) = let inner = function_tree f in (item.Function inner.0, ap g.function_item inner.1)
item_form_tree (g.alias_item a) = let inner = alias_tree a in (item.Alias inner.0, ap g.alias_item inner.1)
item_form_tree (g.does_item s) = let inner = simple_tree s in (item.Simple inner.0, ap g.does_item inner.1)

item_tree : (i : g.Item) → Seen item_view i
item_tree (g.item f e x) = let inner = item_form_tree x in (record { first = f; end = e; form = inner.0 }, ap (g.item f e) inner.1)

items_tree : (l : Items) → Seen (λ xs. items_from no_item (map item_view xs)) l
items_tree no_item = ([], refl)
items_tree (more_item l x) = one_more more_item items_from (λ acc. refl) (λ acc a rest. refl) item_view no_item l x (items_tree l) (item_tree x)

pub each_module_has_a_tree : EachModuleHasATree
unfolding items_view
each_module_has_a_tree (g.module_of f e is) = let items = items_tree is in (record { first = f; end = e; items = items.0 }, ap (g.module_of f e) items.1)
