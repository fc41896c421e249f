-- The steps of reading items, each with the place of its token.
use Rattle.std.specs.Prelude.{ℕ, suc, Bool, true, false, Option, Some, None, List, [], ◌∷◌, not, codes, if◌then◌else◌}
use Rattle.std.specs.Str.{bytes_eq}
use Rattle.js_token.specs.Words.{is_reserved}
use Rattle.js_token.specs.declared.token.TokenKind.{TokenKind}
use Rattle.js_token.specs.declared.token.TokenKind.TheVariants.{Name, Str, Punct}
use Rattle.js_token.specs.declared.punct.Punct.TheVariants.{OpenBrace, CloseBrace, Comma, Semicolon, Assign, PlusPlus}
use Rattle.js_grammar.specs.Words.{Bytes}
use Rattle.js_grammar.specs.Code.{ex, variable, no_link}
use Rattle.js_grammar.specs.Items.{no_imported, more_imported, imported, import_list, Exporteds, no_exported, more_exported, exported, ExportList, export_list, ImportForm, import_default, import_both, import_names, import_types, import_only, export_names, export_from, ItemForm, imports, exports, Items, has_importeds, has_exporteds, base_names}
use Rattle.code_law.specs.Frames.{is_statement, is_default, Wrap, plain_item, exported_item, default_item, opens_names, opens_both, opens_types, opens_exports, importing, exporting, Listing, listing, alias_type, evaluates, in_simple, in_item, in_default, function_start, after_binder, after_type_word, after_alias, after_import, import_word, import_comma, names_start, after_name, after_as, after_pair, after_list, after_from, after_export, export_type, after_exports, exports_from, after_default, item_end, Stack, Step, fault, go, done_items}
use Rattle.code_law.specs.Bodies.{give_item}
use Rattle.code_law.specs.Expressions.{want_step, links_step, typed}
use Rattle.code_law.specs.Statements.{StatementWord, binds, begins_function, begins_import, begins_export, plain_word, statement_word, simple_word, simple_step}

-- a word where an item may begin
abbrev pub top_word : ℕ → Stack → Items → Bytes → StatementWord → Step
top_word i k is n (binds w) = go (in_item i plain_item is ∷ k) (after_binder i w)
top_word i k is n begins_function = go (in_item i plain_item is ∷ k) (function_start is_statement i)
top_word i k is n begins_import = go k (after_import i is)
top_word i k is n begins_export = go k (after_export i is)
top_word i k is n plain_word = if bytes_eq n (codes "type") then go k (after_type_word i is) else simple_word i (in_item i plain_item is ∷ k) n plain_word
top_word i k is n w = fault

-- where an item may begin; the end of the tokens ends the module
abbrev pub items_step : ℕ → Stack → Items → TokenKind → Step
items_step i k is (Punct PlusPlus) = done_items is
items_step i k is (Name n) = top_word i k is n (statement_word n)
items_step i k is x = simple_step i (in_item i plain_item is ∷ k) x

-- whether no word of the list is this
abbrev pub is_none_of : List Bytes → Bytes → Bool
is_none_of [] n = true
is_none_of (w ∷ ws) n = if bytes_eq n w then false else is_none_of ws n

-- whether the word may name an alias
abbrev pub may_alias : Bytes → Bool
may_alias n = if is_reserved n then false else is_none_of base_names n

-- `type` before a name begins an alias; it is a variable else
abbrev pub type_word_step : ℕ → Stack → ℕ → Items → TokenKind → Step
type_word_step i k a is (Name n) = if may_alias n then go k (after_alias a plain_item is a n) else fault
type_word_step i k a is x = links_step i (in_simple a evaluates ∷ in_item a plain_item is ∷ k) (ex a i (variable (codes "type"))) no_link x

-- behind `type` and the name of an alias
abbrev pub alias_step : Stack → ℕ → Wrap → Items → ℕ → Bytes → TokenKind → Step
alias_step k a w is p n (Punct Assign) = typed k (alias_type a w is p n)
alias_step k a w is p n _ = fault

-- behind `import`
abbrev pub import_step : ℕ → Stack → ℕ → Items → TokenKind → Step
import_step i k a is (Str s) = go k (item_end a is (imports import_only s))
import_step i k a is (Name n) = if is_reserved n then fault else go k (import_word a is n)
import_step i k a is (Punct OpenBrace) = go k (names_start (listing a is opens_names i (importing no_imported)))
import_step i k a is _ = fault

-- where `from` must stand
abbrev pub from_step : Stack → ℕ → Items → ImportForm → TokenKind → Step
from_step k a is m (Name n) = if bytes_eq n (codes "from") then go k (after_from a is m) else fault
from_step k a is m _ = fault

-- `import type` before a brace imports types
abbrev pub import_word_step : ℕ → Stack → ℕ → Items → Bytes → TokenKind → Step
import_word_step i k a is n (Punct OpenBrace) = if bytes_eq n (codes "type") then go k (names_start (listing a is opens_types i (importing no_imported))) else fault
import_word_step i k a is n (Punct Comma) = go k (import_comma a is n)
import_word_step i k a is n x = from_step k a is (import_default n) x

-- behind `import`, a name and a comma
abbrev pub import_comma_step : ℕ → Stack → ℕ → Items → Bytes → TokenKind → Step
import_comma_step i k a is n (Punct OpenBrace) = go k (names_start (listing a is (opens_both n) i (importing no_imported)))
import_comma_step i k a is n _ = fault

-- a word at f, and a word behind `as` or none, up to t
abbrev pub add_name : Listing → ℕ → ℕ → Bytes → Option Bytes → Listing
add_name (listing a is q s (importing ns)) f t n None = listing a is q s (importing (more_imported ns (imported f t None n)))
add_name (listing a is q s (importing ns)) f t w (Some n) = listing a is q s (importing (more_imported ns (imported f t (Some w) n)))
add_name (listing a is q s (exporting ns)) f t n o = listing a is q s (exporting (more_exported ns (exported f t n o)))

-- whether the list has a name so far
abbrev pub has_names : Listing → Bool
has_names (listing a is q s (importing ns)) = has_importeds ns
has_names (listing a is q s (exporting ns)) = has_exporteds ns

-- the brace at i ends the list
abbrev pub end_names : ℕ → Stack → Listing → Bool → Step
end_names i k (listing a is opens_names s (importing ns)) c = go k (after_list a is (import_names (import_list s (suc i) ns c)))
end_names i k (listing a is (opens_both n) s (importing ns)) c = go k (after_list a is (import_both n (import_list s (suc i) ns c)))
end_names i k (listing a is opens_types s (importing ns)) c = go k (after_list a is (import_types (import_list s (suc i) ns c)))
end_names i k (listing a is (opens_exports o) s (exporting ns)) c = go k (after_exports a is o (export_list s (suc i) ns c))
end_names i k q c = fault

-- behind the brace of a list of names, or a comma in it
abbrev pub names_step : ℕ → Stack → Listing → TokenKind → Step
names_step i k q (Punct CloseBrace) = end_names i k q (has_names q)
names_step i k q (Name n) = go k (after_name q i n)
names_step i k q _ = fault

-- behind a whole name of a list
abbrev pub pair_step : ℕ → Stack → Listing → TokenKind → Step
pair_step i k q (Punct CloseBrace) = end_names i k q false
pair_step i k q (Punct Comma) = go k (names_start q)
pair_step i k q _ = fault

-- what is imported gets a name; what is exported may be any word
abbrev pub may_name : Listing → Bytes → Bool
may_name (listing a is q s (importing ns)) n = not (is_reserved n)
may_name (listing a is q s (exporting ns)) n = true

-- behind the first word of a name of a list
abbrev pub name_step : ℕ → Stack → Listing → ℕ → Bytes → TokenKind → Step
name_step i k q p n (Name m) = if bytes_eq m (codes "as") then go k (after_as q p n) else fault
name_step i k q p n x = if may_name q n then pair_step i k (add_name q p i n None) x else fault

-- behind `as` in a list of names
abbrev pub as_step : ℕ → Stack → Listing → ℕ → Bytes → TokenKind → Step
as_step i k q p n (Name m) = if may_name q m then go k (after_pair (add_name q p (suc i) n (Some m))) else fault
as_step i k q p n _ = fault

-- behind `from`, where the specifier must stand
abbrev pub source_step : Stack → ℕ → Items → ImportForm → TokenKind → Step
source_step k a is m (Str s) = go k (item_end a is (imports m s))
source_step k a is m _ = fault

-- the semicolon at i ends the item
abbrev pub end_item : ℕ → Stack → ℕ → Items → ItemForm → TokenKind → Step
end_item i k a is x (Punct Semicolon) = give_item (suc i) k a is x
end_item i k a is x _ = fault

-- a word behind `export`
abbrev pub export_word : ℕ → Stack → ℕ → Items → Bytes → StatementWord → Step
export_word i k a is n (binds w) = go (in_item a exported_item is ∷ k) (after_binder i w)
export_word i k a is n begins_function = go (in_item a exported_item is ∷ k) (function_start is_statement i)
export_word i k a is n w =
    if bytes_eq n (codes "type") then go k (export_type a is i)
    else if bytes_eq n (codes "default") then go k (after_default a is)
    else fault

-- behind `export`
abbrev pub export_step : ℕ → Stack → ℕ → Items → TokenKind → Step
export_step i k a is (Name n) = export_word i k a is n (statement_word n)
export_step i k a is (Punct OpenBrace) = go k (names_start (listing a is (opens_exports false) i (exporting no_exported)))
export_step i k a is _ = fault

-- behind `export type`
abbrev pub export_type_step : ℕ → Stack → ℕ → Items → ℕ → TokenKind → Step
export_type_step i k a is p (Name n) = if may_alias n then go k (after_alias a exported_item is p n) else fault
export_type_step i k a is p (Punct OpenBrace) = go k (names_start (listing a is (opens_exports true) i (exporting no_exported)))
export_type_step i k a is p _ = fault

-- whether no exported word is reserved
abbrev pub are_names : Exporteds → Bool
are_names no_exported = true
are_names (more_exported ns (exported f t n w)) = if is_reserved n then false else are_names ns

-- what is exported from this module is a name
abbrev pub are_local : ExportList → Bool
are_local (export_list f t ns c) = are_names ns

-- behind a list of exported names
abbrev pub exports_step : ℕ → Stack → ℕ → Items → Bool → ExportList → TokenKind → Step
exports_step i k a is o ns (Name n) = if bytes_eq n (codes "from") then go k (exports_from a is o ns) else fault
exports_step i k a is o ns x = if are_local ns then end_item i k a is (exports (export_names o ns)) x else fault

-- behind such a list and `from`
abbrev pub exports_from_step : Stack → ℕ → Items → Bool → ExportList → TokenKind → Step
exports_from_step k a is o ns (Str s) = go k (item_end a is (exports (export_from o ns s)))
exports_from_step k a is o ns _ = fault

-- a word behind `export default`
abbrev pub default_word : ℕ → Stack → ℕ → Items → Bytes → StatementWord → Step
default_word i k a is n begins_function = go (in_item a default_item is ∷ k) (function_start is_default i)
default_word i k a is n w = want_step i (in_default a is ∷ k) (Name n)

-- behind `export default`
abbrev pub default_step : ℕ → Stack → ℕ → Items → TokenKind → Step
default_step i k a is (Name n) = default_word i k a is n (statement_word n)
default_step i k a is x = want_step i (in_default a is ∷ k) x
