-- Names in braces, as lists.
use Rattle.std.proofs.Common.{◌≡◌, refl, sym, ◌∙◌, ap, ℕ, suc, arith, Option, Some, None, List, [], ◌∷◌, ◌&&◌, Bool, true, false, not, length, if◌then◌else◌}
use Rattle.std.specs.Prelude.{map, ◌==◌}
use Rattle.std.specs.List.{list_all}
use Rattle.std.proofs.lemmas.Bool.Decides.{nat_tests}
use Rattle.js_token.specs.Words.{is_reserved}
use Rattle.js_token.specs.declared.token.TokenKind.{TokenKind}
use Rattle.js_grammar.specs.Words.{Bytes}
use Rattle.js_grammar.specs.Items.{Items, Importeds, Imported as ImportedName, no_imported, more_imported, Exporteds, Exported as ExportedName, no_exported, more_exported, has_importeds, has_exporteds}
use Rattle.js_tree.specs.View.{imported_view, importeds_from, importeds_view, exported_view, exporteds_from, exporteds_view}
use Rattle.js_tree.specs.declared.items.Imported.{Imported}
use Rattle.js_tree.specs.declared.items.Exported.{Exported}
use Rattle.code_law.specs.Frames.{Opening, Names, importing, exporting, listing, Step, fault}
use Rattle.code_law.specs.Modules.{are_names, may_name, has_names, add_name, pair_step}
use Rattle.item_steps.specs.Names.{is_name, with_name, any_name, takes_word, name_ends}
use Rattle.code_state.proofs.Pushes.{importeds_view-push, exporteds_view-push, importeds_view-none, exporteds_view-none}

some_length : (n : ℕ) → (suc n == 0) ≡ false
some_length n = grind (arith, nat_tests)

importeds-more : (acc : Importeds) (n : ImportedName) (ns : List ImportedName) → has_importeds (importeds_from acc (n ∷ ns)) ≡ true
importeds-more acc n [] = refl
importeds-more acc n (m ∷ ns) = importeds-more (more_imported acc n) m ns

pub has_importeds_view : (ns : List Imported) → has_importeds (importeds_view ns) ≡ not (length ns == 0)
unfolding importeds_view
has_importeds_view [] = refl
has_importeds_view (n ∷ ns) = importeds-more no_imported (imported_view n) (map imported_view ns) ∙ ap not (sym (some_length (length ns)))

exporteds-more : (acc : Exporteds) (n : ExportedName) (ns : List ExportedName) → has_exporteds (exporteds_from acc (n ∷ ns)) ≡ true
exporteds-more acc n [] = refl
exporteds-more acc n (m ∷ ns) = exporteds-more (more_exported acc n) m ns

pub has_exporteds_view : (ns : List Exported) → has_exporteds (exporteds_view ns) ≡ not (length ns == 0)
unfolding exporteds_view
has_exporteds_view [] = refl
has_exporteds_view (n ∷ ns) = exporteds-more no_exported (exported_view n) (map exported_view ns) ∙ ap not (sym (some_length (length ns)))

turned : (a b c : Bool) → ((if a then false else b) && c) ≡ (b && (not a && c))
turned true true c = refl
turned true false c = refl
turned false b c = refl

are_names-from : (acc : Exporteds) (ns : List Exported) → are_names (exporteds_from acc (map exported_view ns)) ≡ (are_names acc && list_all is_name ns)
are_names-from acc [] = and_true (are_names acc)
  where
    and_true : (b : Bool) → b ≡ (b && true)
    and_true true = refl
    and_true false = refl
are_names-from acc (n ∷ ns) = are_names-from (more_exported acc (exported_view n)) ns ∙ turned (is_reserved n.name) (are_names acc) (list_all is_name ns)

pub are_names_view : (ns : List Exported) → are_names (exporteds_view ns) ≡ list_all is_name ns
unfolding exporteds_view
are_names_view ns = are_names-from no_exported ns

pub may_name_of : (a : ℕ) (is : Items) (q : Opening) (s : ℕ) (ns : Names) (n : Bytes) → may_name (listing a is q s ns) n ≡ takes_word ns n
may_name_of a is q s (importing ns) n = refl
may_name_of a is q s (exporting ns) n = refl

pub has_names_of : (a : ℕ) (is : Items) (q : Opening) (s : ℕ) (ns : Names) → has_names (listing a is q s ns) ≡ any_name ns
has_names_of a is q s (importing ns) = refl
has_names_of a is q s (exporting ns) = refl

pub add_name_of : (a : ℕ) (is : Items) (q : Opening) (s : ℕ) (ns : Names) (f t : ℕ) (n : Bytes) (o : Option Bytes) → add_name (listing a is q s ns) f t n o ≡ listing a is q s (with_name ns f t n o)
add_name_of a is q s (importing ns) f t n None = refl
add_name_of a is q s (importing ns) f t n (Some m) = refl
add_name_of a is q s (exporting ns) f t n o = refl

-- a token behind a name that no `as` follows
pub name_ended : (i p a : ℕ) (is : Items) (q : Opening) (s : ℕ) (ns more : Names) (n : Bytes) (x : TokenKind) (t : Step) → takes_word ns n ≡ true → more ≡ with_name ns p i n None →
    t ≡ pair_step i [] (listing a is q s more) x → t ≡ name_ends i (listing a is q s ns) p n x
name_ended i p a is q s ns more n x t takes grown e =
    e ∙ ap (λ m. pair_step i [] (listing a is q s m) x) grown ∙ sym (ap (λ l. pair_step i [] l x) (add_name_of a is q s ns p i n None))
    ∙ sym (ap (λ b. if b then pair_step i [] (add_name (listing a is q s ns) p i n None) x else fault) (may_name_of a is q s ns n ∙ takes))

pub ruleset listings = (may_name_of, has_names_of, add_name_of)

pub ruleset pushes = (importeds_view-push, exporteds_view-push)

pub ruleset nothings = (importeds_view-none, exporteds_view-none)

pub ruleset empties = (has_importeds_view, has_exporteds_view)
