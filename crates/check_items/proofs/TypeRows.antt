-- What the names of a module are, row by row.
use Rattle.std.proofs.Common.{◌≡◌, ℕ, ◌+◌, ◌<◌, ◌≤◌, Bool, true, false, cond, List, [], ◌∷◌, ◌++◌, length, take, take_all, get_or, Option, Some, None, option_map, unwrap_or, bytes_eq, refl, sym, ap, ◌∙◌, append_assoc, append-nil}
use Rattle.std.proofs.lemmas.List.{take_more, map-append}
use Rattle.std.proofs.lemmas.List.Elements.{filter_map-append}
use Rattle.std.specs.Cmp.Lexicographic.{bytes_decides}
use Rattle.std.specs.List.{flat_map, cons_option}
use Rattle.std.specs.Option.{option_or, option_to_list}
use Rattle.alias_table.specs.Aliases.{Row}
use Rattle.check_values.specs.Rows.{Bytes, Rows, row_at, first_of_each}
use Rattle.check_values.specs.declared.signatures.Deps.{Deps}
use Rattle.check_values.specs.declared.signatures.Sig.{Sig}
use Rattle.check_world.specs.View.{meaning_view, meaning_by_row, meaning_in, row_of, with_row}
use Rattle.check_world.specs.declared.names.TypeMeaning.{TypeMeaning}
use Rattle.check_world.specs.declared.names.TypeScope.{TypeScope}
use Rattle.js_tree.specs.View.{imported_view, importeds_view, item_view, items_view}
use Rattle.js_tree.specs.declared.items.Imported.{Imported}
use Rattle.js_tree.specs.declared.items.Item.{Item}
use Rattle.js_grammar.specs.Items as g
use Rattle.local_signatures.specs.Scope.{Binding, Scope, bound_import, bound_variable, bound_function, bound_alias, bound_imported, bound_importeds, bound_by, items_from}
use Rattle.typing.specs.States as typing
use Rattle.module_errors.specs.Program.{type_said, type_bound}
use Rattle.named_rows.specs.Seen.{seen}
use Rattle.named_rows.proofs.Lists.{seen_more, flat_last}
use Rattle.named_rows.proofs.FirstRows.{seen_first, row_seen}
use Rattle.import_sayings.specs.declared.imports.Imports.{Imports}
use Rattle.check_items.specs.View.{SaysOf}
use Rattle.check_items.specs.Meant.{Meant, meant, meant_view, meaning_of, AreNamed, own_row, own_rows}
use Rattle.check_items.specs.declared.naming.Meant as own
use Rattle.check_items.proofs.InOrder.{importeds_none, importeds_more, items_none as no_items, items_more}

-- ---- the names of lists

pub listed_none : (is_type : Bool) (spec : Bytes) (first : Rows Meant) → first ≡ first ++ seen meant (bound_importeds is_type spec (importeds_view []))
listed_none is_type spec first = sym (append-nil first) ∙ ap (λ (ns : g.Importeds). first ++ seen meant (bound_importeds is_type spec ns)) (sym importeds_none)

pub listed_next : (is_type : Bool) (spec : Bytes) (xs : List Imported) (i : ℕ) (x : Imported) (first before after : Rows Meant) → i < length xs → x ≡ get_or xs i x →
    after ≡ before ++ seen meant (bound_imported is_type spec (imported_view x)) → before ≡ first ++ seen meant (bound_importeds is_type spec (importeds_view (take i xs))) →
    after ≡ first ++ seen meant (bound_importeds is_type spec (importeds_view (take (i + 1) xs)))
listed_next is_type spec xs i x first before after within at adds so_far =
    adds ∙ ap (λ (l : Rows Meant). l ++ seen meant (bound_imported is_type spec (imported_view x))) so_far
    ∙ append_assoc first (seen meant (bound_importeds is_type spec (importeds_view (take i xs)))) (seen meant (bound_imported is_type spec (imported_view x)))
    ∙ ap (λ (l : Rows Meant). first ++ l)
    (sym (map-append (λ (row : Bytes × Binding). (row.0, meant row.1)) (bound_importeds is_type spec (importeds_view (take i xs))) (bound_imported is_type spec (imported_view x)))
    ∙ ap (λ (ns : g.Importeds). seen meant (bound_importeds is_type spec ns)) (sym (importeds_more xs i x within at)))

pub listed_all : (is_type : Bool) (spec : Bytes) (xs all : List Imported) (i : ℕ) (first after : Rows Meant) → length xs ≤ i → xs ≡ all → after ≡ first ++ seen meant (bound_importeds is_type spec (importeds_view (take i xs))) →
    after ≡ first ++ seen meant (bound_importeds is_type spec (importeds_view all))
listed_all is_type spec xs all i first after long same is = is ∙ ap (λ (ns : List Imported). first ++ seen meant (bound_importeds is_type spec (importeds_view ns))) (take_all i xs long ∙ same)

pub items_none : (all : Rows own.Meant) → all ≡ [] → seen meant_view all ≡ seen meant (flat_map bound_by (items_from (items_view [])))
items_none all none = ap (seen meant_view) none ∙ sym (ap (λ (is : g.Items). seen meant (flat_map bound_by (items_from is))) no_items)

pub items_next : (xs : List Item) (i : ℕ) (x : Item) (before after : Rows Meant) → i < length xs → x ≡ get_or xs i x → after ≡ before ++ seen meant (bound_by (item_view x)) →
    before ≡ seen meant (flat_map bound_by (items_from (items_view (take i xs)))) → after ≡ seen meant (flat_map bound_by (items_from (items_view (take (i + 1) xs))))
items_next xs i x before after within at adds so_far =
    adds ∙ ap (λ (l : Rows Meant). l ++ seen meant (bound_by (item_view x))) so_far
    ∙ sym (map-append (λ (row : Bytes × Binding). (row.0, meant row.1)) (flat_map bound_by (items_from (items_view (take i xs)))) (bound_by (item_view x)))
    ∙ ap (seen meant) (sym (flat_last bound_by (items_from (items_view (take i xs))) (item_view x)) ∙ ap (λ (is : g.Items). flat_map bound_by (items_from is)) (sym (items_more xs i x within at)))

pub items_all : (xs : List Item) (i : ℕ) (after : Rows Meant) → length xs ≤ i → after ≡ seen meant (flat_map bound_by (items_from (items_view (take i xs)))) → after ≡ seen meant (flat_map bound_by (items_from (items_view xs)))
items_all xs i after long is = is ∙ ap (λ (l : List Item). seen meant (flat_map bound_by (items_from (items_view l)))) (take_all i xs long)

-- the first row of each name
pub firsts_seen : (slice all firsts : Rows own.Meant) (bindings : Scope) → slice ≡ all → seen meant_view all ≡ seen meant bindings → firsts ≡ first_of_each slice → seen meant_view firsts ≡ seen meant (first_of_each bindings)
firsts_seen slice all firsts bindings here is same =
    ap (seen meant_view) same ∙ seen_first meant_view slice ∙ ap first_of_each (ap (seen meant_view) here ∙ is) ∙ sym (seen_first meant bindings)

-- ---- what they mean

taken : (xs : Rows own.Meant) (i : ℕ) (x : Bytes × own.Meant) → i < length xs → x ≡ get_or xs i x → seen meant_view (take (i + 1) xs) ≡ seen meant_view (take i xs) ++ (x.0, meant_view x.1) ∷ []
taken xs i x within at = ap (seen meant_view) (take_more xs i x within ∙ ap (λ (y : Bytes × own.Meant). take i xs ++ y ∷ []) (sym at)) ∙ seen_more meant_view (take i xs) x

row_last : (rows : Rows Meant) (y : Bytes × Meant) (name : Bytes) → row_at (rows ++ y ∷ []) name ≡ option_or (row_at rows name) (cond (bytes_eq y.0 name) (Some y.1) None)
row_last [] y name = refl
row_last (row ∷ rows) y name = go (bytes_eq row.0 name) (row_last rows y name)
  where
    go : (b : Bool) → row_at (rows ++ y ∷ []) name ≡ option_or (row_at rows name) (cond (bytes_eq y.0 name) (Some y.1) None) →
        cond b (Some row.1) (row_at (rows ++ y ∷ []) name) ≡ option_or (cond b (Some row.1) (row_at rows name)) (cond (bytes_eq y.0 name) (Some y.1) None)
    go true rest = refl
    go false rest = rest

named_more : (imports : Imports) (path : Bytes) (rows : Rows Meant) (name : Bytes) (what : Meant) (meaning : TypeMeaning) (old new : TypeScope) → AreNamed imports path rows old → meaning_view meaning ≡ meaning_of imports path name what →
    ((other : Bytes) → row_of new other ≡ with_row (row_of old other) (bytes_eq name other) meaning) → AreNamed imports path (rows ++ (name, what) ∷ []) new
named_more imports path rows name what meaning old new before is adds other =
    ap (option_map meaning_view) (adds other) ∙ go (row_of old other) (row_at rows other) (bytes_eq name other) refl (before other)
    ∙ sym (ap (option_map (meaning_of imports path other)) (row_last rows (name, what) other))
  where
    go : (o : Option TypeMeaning) (x : Option Meant) (b : Bool) → bytes_eq name other ≡ b → option_map meaning_view o ≡ option_map (meaning_of imports path other) x →
        option_map meaning_view (with_row o b meaning) ≡ option_map (meaning_of imports path other) (option_or x (cond b (Some what) None))
    go None None true e same = ap Some (is ∙ ap (λ (n : Bytes). meaning_of imports path n what) ((bytes_decides name other).0 e))
    go None None false e same = refl
    go (Some o) (Some x) true e same = same
    go (Some o) (Some x) false e same = same
    go None (Some x) b e same = absurd (cc)
    go (Some o) None b e same = absurd (cc)

pub named_none : (imports : Imports) (path : Bytes) (names : TypeScope) → ((name : Bytes) → row_of names name ≡ None) → AreNamed imports path [] names
named_none imports path names none name = ap (option_map meaning_view) (none name)

pub named_next : (imports : Imports) (path : Bytes) (xs : Rows own.Meant) (i : ℕ) (x : Bytes × own.Meant) (key : Bytes) (meaning : TypeMeaning) (old new : TypeScope) → i < length xs → x ≡ get_or xs i x → key ≡ x.0 →
    meaning_view meaning ≡ meaning_of imports path x.0 (meant_view x.1) → ((other : Bytes) → row_of new other ≡ with_row (row_of old other) (bytes_eq key other) meaning) →
    AreNamed imports path (seen meant_view (take i xs)) old → AreNamed imports path (seen meant_view (take (i + 1) xs)) new
named_next imports path xs i x key meaning old new within at same is adds before name =
    named_more imports path (seen meant_view (take i xs)) x.0 (meant_view x.1) meaning old new before is
    (λ other. adds other ∙ ap (λ (k : Bytes). with_row (row_of old other) (bytes_eq k other) meaning) same) name
    ∙ ap (λ (rows : Rows Meant). option_map (meaning_of imports path name) (row_at rows name)) (sym (taken xs i x within at))

pub named_all : (imports : Imports) (path : Bytes) (xs : Rows own.Meant) (i : ℕ) (names : TypeScope) → length xs ≤ i → AreNamed imports path (seen meant_view (take i xs)) names → AreNamed imports path (seen meant_view xs) names
named_all imports path xs i names long is name = is name ∙ ap (λ (l : Rows own.Meant). option_map (meaning_of imports path name) (row_at (seen meant_view l) name)) (take_all i xs long)

-- by a dependency list and merged signatures
pub named_bound : (imports : Imports) (path : Bytes) (deps : Deps) (sigs : Bytes → Option Sig) (slice rows : Rows own.Meant) (bindings : Scope) (names : TypeScope) → SaysOf imports deps sigs → slice ≡ rows → seen meant_view rows ≡ seen meant bindings →
    AreNamed imports path (seen meant_view slice) names → (name : Bytes) → meaning_in names name ≡ type_bound path deps sigs name (row_at bindings name)
named_bound imports path deps sigs slice rows bindings names says here same are name =
    go (row_of names name) (row_at bindings name)
    (are name ∙ ap (option_map (meaning_of imports path name)) (ap (λ (l : Rows Meant). row_at l name) (ap (seen meant_view) here ∙ same) ∙ sym (row_seen meant bindings name)))
  where
    bound : (b : Binding) → meaning_of imports path name (meant b) ≡ type_bound path deps sigs name (Some b)
    bound (bound_alias t) = refl
    bound (bound_import spec outer true) = ap (λ s. typing.a_type (type_said s)) (says.says spec outer)
    bound (bound_import spec outer false) = refl
    bound (bound_variable d) = refl
    bound (bound_function f) = refl

    go : (o : Option TypeMeaning) (b : Option Binding) → option_map meaning_view o ≡ option_map (meaning_of imports path name) (option_map meant b) → meaning_by_row o ≡ type_bound path deps sigs name b
    go None None e = refl
    go (Some o) (Some b) e = ap (λ (x : Option typing.TypeMeaning). unwrap_or x (meaning_view o)) e ∙ bound b
    go None (Some b) e = absurd (cc)
    go (Some o) None e = absurd (cc)

-- ---- the module's own aliases

rows_last : (path : Bytes) (meaning : Bytes → typing.TypeMeaning) (rows : Rows Meant) (y : Bytes × Meant) → own_rows path meaning (rows ++ y ∷ []) ≡ own_rows path meaning rows ++ option_to_list (own_row path meaning y)
rows_last path meaning rows y = filter_map-append (own_row path meaning) rows (y ∷ []) ∙ ap (λ (l : List Row). own_rows path meaning rows ++ l) (go (own_row path meaning y))
  where
    go : (o : Option Row) → cons_option o [] ≡ option_to_list o
    go None = refl
    go (Some row) = refl

pub rows_none : (path : Bytes) (meaning : Bytes → typing.TypeMeaning) (l : List Row) → l ≡ l ++ own_rows path meaning (seen meant_view [])
rows_none path meaning l = sym (append-nil l)

pub rows_next : (path : Bytes) (meaning : Bytes → typing.TypeMeaning) (xs : Rows own.Meant) (i : ℕ) (x : Bytes × own.Meant) (first before after : List Row) → i < length xs → x ≡ get_or xs i x →
    after ≡ before ++ option_to_list (own_row path meaning (x.0, meant_view x.1)) → before ≡ first ++ own_rows path meaning (seen meant_view (take i xs)) → after ≡ first ++ own_rows path meaning (seen meant_view (take (i + 1) xs))
rows_next path meaning xs i x first before after within at adds so_far =
    adds ∙ ap (λ (l : List Row). l ++ option_to_list (own_row path meaning (x.0, meant_view x.1))) so_far
    ∙ append_assoc first (own_rows path meaning (seen meant_view (take i xs))) (option_to_list (own_row path meaning (x.0, meant_view x.1)))
    ∙ ap (λ (l : List Row). first ++ l) (sym (rows_last path meaning (seen meant_view (take i xs)) (x.0, meant_view x.1)) ∙ ap (own_rows path meaning) (sym (taken xs i x within at)))

pub rows_all : (path : Bytes) (meaning : Bytes → typing.TypeMeaning) (xs all : Rows own.Meant) (i : ℕ) (first after : List Row) → length xs ≤ i → xs ≡ all → after ≡ first ++ own_rows path meaning (seen meant_view (take i xs)) →
    after ≡ first ++ own_rows path meaning (seen meant_view all)
rows_all path meaning xs all i first after long same is = is ∙ ap (λ (l : Rows own.Meant). first ++ own_rows path meaning (seen meant_view l)) (take_all i xs long ∙ same)
