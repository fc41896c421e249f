-- A module has no more exports than tokens.
use Rattle.std.proofs.Common.{ℕ, ◌+◌, ◌≤◌, Bool, true, false, List, [], ◌∷◌, length, Some, None, ap, arith, codes}
use Rattle.std.proofs.lemmas.List.{length-append, length-map}
use Rattle.std.proofs.lemmas.List.Concat.{flat_map-append}
use Rattle.std.specs.List.{flat_map}
use Rattle.std.specs.Ordering.{nat_cmp}
use Rattle.std.specs.Cmp.Lexicographic.{slice_cmp}
use Rattle.std.specs.declared.cmp.Ordering.{Ordering}
use Rattle.std.specs.declared.cmp.Ordering.TheVariants.{Less, Equal, Greater}
use Rattle.check_values.specs.declared.signatures.Origin.{Origin}
use Rattle.check_values.specs.Rows.{Bytes, Rows, put, ordered, by_name}
use Rattle.js_token.specs.declared.token.TokenKind.{TokenKind}
use Rattle.js_token.specs.declared.token.TokenKind.TheVariants.{Name, Str, Punct}
use Rattle.js_token.specs.declared.punct.Punct.TheVariants.{CloseBrace, Comma, Semicolon}
use Rattle.js_grammar.specs.TypeSpelling.{Tokens, opt}
use Rattle.js_grammar.specs.Items.{exported, Exporteds, no_exported, more_exported, ExportList, export_list, ExportForm, export_declaration, export_function, export_alias, export_names, export_from, export_default_function, export_default, ItemForm, imports, exports, declares_item, function_item, alias_item, does_item, Item, item, Items, no_item, more_item, Module, module_of, spell_begun_exports, spell_exporteds, spell_export_list, spell_export, spell_item_form, spell_item, spell_items, spell_module, from_word, type_word}
use Rattle.js_grammar.proofs.Front.{Front, f_export, f_item_form}
use Rattle.local_signatures.specs.Scope.{Scope, scope_of, items_from, items_in}
use Rattle.local_signatures.specs.Exports.{Told, told_listed, told_list, told_by_export, told_by_form, told_by, told_in, told_name, told_elsewhere, origin_of}
use Rattle.local_signatures.specs.LocalSignature.{exports_of}

-- what is spelled before the tokens that follow makes them no fewer
grows : {s : Tokens → Tokens} {f : ℕ → ℕ} → Front s f → (l : Tokens) → length l ≤ length (s l)
grows a l = let whole = ap length (a.1 l) in let both = length-append a.0 l in omega (arith, whole, both)

-- ---- names in braces

module _ (tells : Bytes → Told) where
  begun : (ns : Exporteds) (l : Tokens) → length (told_listed tells ns) + length l ≤ length (spell_begun_exports ns l)
  begun no_exported l = omega arith
  begun (more_exported ns (exported f t n None)) l =
      let before = begun ns (Name n ∷ Punct Comma ∷ l) in
      let count = length-append (told_listed tells ns) ((n, tells n) ∷ []) in
      omega (arith, before, count)
  begun (more_exported ns (exported f t n (Some w))) l =
      let before = begun ns (Name n ∷ Name (codes "as") ∷ Name w ∷ Punct Comma ∷ l) in
      let count = length-append (told_listed tells ns) ((w, tells n) ∷ []) in
      omega (arith, before, count)

  named : (ns : Exporteds) (l : Tokens) → length (told_listed tells ns) + length l ≤ length (spell_exporteds ns l)
  named no_exported l = omega arith
  named (more_exported ns (exported f t n None)) l =
      let before = begun ns (Name n ∷ l) in
      let count = length-append (told_listed tells ns) ((n, tells n) ∷ []) in
      omega (arith, before, count)
  named (more_exported ns (exported f t n (Some w))) l =
      let before = begun ns (Name n ∷ Name (codes "as") ∷ Name w ∷ l) in
      let count = length-append (told_listed tells ns) ((w, tells n) ∷ []) in
      omega (arith, before, count)

  perhaps : (b : Bool) (x : TokenKind) (l : Tokens) → length l ≤ length (opt b x l)
  perhaps true x l = omega arith
  perhaps false x l = omega arith

  listed : (ns : ExportList) (l : Tokens) → length (told_list tells ns) + length l ≤ length (spell_export_list ns l)
  listed (export_list f t ns c) l =
      let names = named ns (opt c (Punct Comma) (Punct CloseBrace ∷ l)) in
      let comma = perhaps c (Punct Comma) (Punct CloseBrace ∷ l) in
      omega (arith, names, comma)

  behind_type : (b : Bool) (ns : ExportList) (l : Tokens) → length (told_list tells ns) + length l ≤ length (opt b type_word (spell_export_list ns l))
  behind_type b ns l = let names = listed ns l in let word = perhaps b type_word (spell_export_list ns l) in omega (arith, names, word)

-- ---- items

module _ (scope : Scope) (from to : ℕ) where
  by_export : (e : ExportForm) (l : Tokens) → length (told_by_export scope from to e) + length l ≤ 1 + length (spell_export e l)
  by_export (export_declaration d) l = let more = grows (f_export (export_declaration d)) l in omega (arith, more)
  by_export (export_function f) l = let more = grows (f_export (export_function f)) l in omega (arith, more)
  by_export (export_alias a) l = let more = grows (f_export (export_alias a)) l in omega (arith, more)
  by_export (export_names o ns) l = let names = behind_type (told_name scope o) o ns (Punct Semicolon ∷ l) in omega (arith, names)
  by_export (export_from o ns s) l = let names = behind_type (λ word. told_elsewhere s word o) o ns (from_word ∷ Str s ∷ Punct Semicolon ∷ l) in omega (arith, names)
  by_export (export_default_function f) l = let more = grows (f_export (export_default_function f)) l in omega (arith, more)
  by_export (export_default e) l = let more = grows (f_export (export_default e)) l in omega (arith, more)

  by_form : (x : ItemForm) (l : Tokens) → length (told_by_form scope from to x) + length l ≤ length (spell_item_form x l)
  by_form (imports i s) l = let more = grows (f_item_form (imports i s)) l in omega (arith, more)
  by_form (exports e) l = let more = by_export e l in omega (arith, more)
  by_form (declares_item d) l = let more = grows (f_item_form (declares_item d)) l in omega (arith, more)
  by_form (function_item f) l = let more = grows (f_item_form (function_item f)) l in omega (arith, more)
  by_form (alias_item a) l = let more = grows (f_item_form (alias_item a)) l in omega (arith, more)
  by_form (does_item s) l = let more = grows (f_item_form (does_item s)) l in omega (arith, more)

by_item : (scope : Scope) (x : Item) (l : Tokens) → length (told_by scope x) + length l ≤ length (spell_item x l)
by_item scope (item first end form) l = by_form scope first end form l

by_items : (scope : Scope) (is : Items) (l : Tokens) → length (flat_map (told_by scope) (items_from is)) + length l ≤ length (spell_items is l)
by_items scope no_item l = omega arith
by_items scope (more_item before last) l =
    let earlier = by_items scope before (spell_item last l) in
    let here = by_item scope last l in
    let split = ap length (flat_map-append (told_by scope) (items_from before) (last ∷ [])) in
    let both = length-append (flat_map (told_by scope) (items_from before)) (flat_map (told_by scope) (last ∷ [])) in
    let one = length-append (told_by scope last) [] in
    omega (arith, earlier, here, split, both, one)

-- ---- in order of the names

module _ {X : Type 0} (cmp : X → X → Ordering) where
  put_one : (x : X) (xs : List X) → length (put cmp x xs) ≤ length xs + 1
  put_one x [] = omega arith
  put_one x (y ∷ more) = go (cmp x y) (put_one x more)
    where
      go : (o : Ordering) → length (put cmp x more) ≤ length more + 1 → length (elim o as (λ _. List X) [ Less ↦ x ∷ y ∷ more | Equal ↦ x ∷ more | Greater ↦ y ∷ put cmp x more ]) ≤ length (y ∷ more) + 1
      go Less later = omega arith
      go Equal later = omega arith
      go Greater later = omega (arith, later)

  ordered_few : (xs : List X) → length (ordered cmp xs) ≤ length xs
  ordered_few [] = omega arith
  ordered_few (x ∷ xs) = let rest = ordered_few xs in let one = put_one x (ordered cmp xs) in omega (arith, rest, one)

by_name_few : {X : Type 0} (rows : Rows X) → length (by_name rows) ≤ length rows
by_name_few {X} rows = ordered_few {X = Bytes × X} (λ a b. slice_cmp nat_cmp a.0 b.0) rows

pub exports_within : (m : Module) → length (exports_of m) ≤ length (spell_module m)
exports_within (module_of f t is) =
    let m : Module = module_of f t is in
    let told = flat_map (told_by (scope_of m)) (items_in m) in
    let count = length-map {B = Bytes × Origin} (told_in m) (λ row. (row.0, origin_of row.1)) in
    let each = by_name_few told in
    let spelled = by_items (scope_of m) is [] in
    omega (arith, count, each, spelled)
