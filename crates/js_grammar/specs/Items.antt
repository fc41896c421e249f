-- The trees of modules: their items, the spelling, the places of the tokens, and which of them are of the grammar.
use Rattle.std.specs.Prelude.{◌≡◌, ℕ, suc, ◌&&◌, Bool, true, false, Option, Some, None, List, [], ◌∷◌, codes}
use Rattle.std.specs.Str.{bytes_eq}
use Rattle.js_token.specs.declared.token.TokenKind.{TokenKind}
use Rattle.js_token.specs.declared.token.TokenKind.TheVariants.{Name, Str, Punct}
use Rattle.js_token.specs.declared.punct.Punct.TheVariants.{OpenBrace, CloseBrace, Comma, Semicolon, Assign}
use Rattle.js_grammar.specs.Words.{Bytes, IsName}
use Rattle.js_grammar.specs.Types.{Ty}
use Rattle.js_grammar.specs.TypeSpelling.{Tokens, opt, spell}
use Rattle.js_grammar.specs.TypeFits.{bump, stop, Fits, CommaFits}
use Rattle.js_grammar.specs.Code.{Ex, Function, Declaration, Simple, simple, SimpleForm, assign, evaluate}
use Rattle.js_grammar.specs.CodeSpelling.{spell_ex, spell_function, spell_declaration, spell_simple}
use Rattle.js_grammar.specs.CodePlaces.{stop_ex, stop_function, stop_declaration, stop_simple}
use Rattle.js_grammar.specs.CodeFits.{Context, inside, BeginsNot, IsNamed, FitsEx, FitsFunction, FitsDeclaration, FitsSimple}

-- a word and `as`, or not, and a name
pub data Imported : Type 0 where
  imported : ℕ → ℕ → Option Bytes → Bytes → Imported

-- the names of an import, in order
pub data Importeds : Type 0 where
  no_imported : Importeds
  more_imported : Importeds → Imported → Importeds

-- imported names in braces, their last comma or not
pub data ImportList : Type 0 where
  import_list : ℕ → ℕ → Importeds → Bool → ImportList

-- a word, and `as` and a word, or not
pub data Exported : Type 0 where
  exported : ℕ → ℕ → Bytes → Option Bytes → Exported

-- the names of an export, in order
pub data Exporteds : Type 0 where
  no_exported : Exporteds
  more_exported : Exporteds → Exported → Exporteds

-- exported names in braces, their last comma or not
pub data ExportList : Type 0 where
  export_list : ℕ → ℕ → Exporteds → Bool → ExportList

-- what stands between `import` and the specifier
pub data ImportForm : Type 0 where
  import_default : Bytes → ImportForm
  import_both : Bytes → ImportList → ImportForm
  import_names : ImportList → ImportForm
  import_types : ImportList → ImportForm
  import_only : ImportForm

-- `type`, a name, a type
pub data AliasOf : Type 0 where
  alias : ℕ → ℕ → Bytes → Ty → AliasOf

-- what stands behind `export`; the flag of a list tells a `type` before it
pub data ExportForm : Type 0 where
  export_declaration : Declaration → ExportForm
  export_function : Function → ExportForm
  export_alias : AliasOf → ExportForm
  export_names : Bool → ExportList → ExportForm
  export_from : Bool → ExportList → Bytes → ExportForm
  export_default_function : Function → ExportForm
  export_default : Ex → ExportForm

-- the forms of items; an import has its specifier, and `does_item` is a simple statement and its semicolon
pub data ItemForm : Type 0 where
  imports : ImportForm → Bytes → ItemForm
  exports : ExportForm → ItemForm
  declares_item : Declaration → ItemForm
  function_item : Function → ItemForm
  alias_item : AliasOf → ItemForm
  does_item : Simple → ItemForm

-- an item: where it begins and ends, and its form
pub data Item : Type 0 where
  item : ℕ → ℕ → ItemForm → Item

pub data Items : Type 0 where
  no_item : Items
  more_item : Items → Item → Items

-- a module: where it begins and ends, and its items
pub data Module : Type 0 where
  module_of : ℕ → ℕ → Items → Module

-- whether each list has one
abbrev pub has_importeds : Importeds → Bool
has_importeds no_imported = false
has_importeds (more_imported ns n) = true

abbrev pub has_exporteds : Exporteds → Bool
has_exporteds no_exported = false
has_exporteds (more_exported ns n) = true

-- The spelling, written before the tokens that follow.
abbrev pub spell_imported : Imported → Tokens → Tokens
spell_imported (imported f t None n) l = Name n ∷ l
spell_imported (imported f t (Some w) n) l = Name w ∷ Name (codes "as") ∷ Name n ∷ l

-- with a comma behind each
abbrev pub spell_begun_imports : Importeds → Tokens → Tokens
spell_begun_imports no_imported l = l
spell_begun_imports (more_imported ns n) l = spell_begun_imports ns (spell_imported n (Punct Comma ∷ l))

abbrev pub spell_importeds : Importeds → Tokens → Tokens
spell_importeds no_imported l = l
spell_importeds (more_imported ns n) l = spell_begun_imports ns (spell_imported n l)

abbrev pub spell_import_list : ImportList → Tokens → Tokens
spell_import_list (import_list f t ns c) l = Punct OpenBrace ∷ spell_importeds ns (opt c (Punct Comma) (Punct CloseBrace ∷ l))

abbrev pub spell_exported : Exported → Tokens → Tokens
spell_exported (exported f t n None) l = Name n ∷ l
spell_exported (exported f t n (Some w)) l = Name n ∷ Name (codes "as") ∷ Name w ∷ l

-- with a comma behind each
abbrev pub spell_begun_exports : Exporteds → Tokens → Tokens
spell_begun_exports no_exported l = l
spell_begun_exports (more_exported ns n) l = spell_begun_exports ns (spell_exported n (Punct Comma ∷ l))

abbrev pub spell_exporteds : Exporteds → Tokens → Tokens
spell_exporteds no_exported l = l
spell_exporteds (more_exported ns n) l = spell_begun_exports ns (spell_exported n l)

abbrev pub spell_export_list : ExportList → Tokens → Tokens
spell_export_list (export_list f t ns c) l = Punct OpenBrace ∷ spell_exporteds ns (opt c (Punct Comma) (Punct CloseBrace ∷ l))

-- `from`, behind what is imported
abbrev pub from_word : TokenKind
from_word = Name (codes "from")

-- `type`, before what is imported or exported as types
abbrev pub type_word : TokenKind
type_word = Name (codes "type")

-- what stands between `import` and the specifier
abbrev pub spell_import : ImportForm → Tokens → Tokens
spell_import (import_default n) l = Name n ∷ from_word ∷ l
spell_import (import_both n ns) l = Name n ∷ Punct Comma ∷ spell_import_list ns (from_word ∷ l)
spell_import (import_names ns) l = spell_import_list ns (from_word ∷ l)
spell_import (import_types ns) l = type_word ∷ spell_import_list ns (from_word ∷ l)
spell_import import_only l = l

abbrev pub spell_alias : AliasOf → Tokens → Tokens
spell_alias (alias f t n v) l = type_word ∷ Name n ∷ Punct Assign ∷ spell v l

-- what stands behind `export`
abbrev pub spell_export : ExportForm → Tokens → Tokens
spell_export (export_declaration d) l = spell_declaration d (Punct Semicolon ∷ l)
spell_export (export_function f) l = spell_function f l
spell_export (export_alias a) l = spell_alias a (Punct Semicolon ∷ l)
spell_export (export_names o ns) l = opt o type_word (spell_export_list ns (Punct Semicolon ∷ l))
spell_export (export_from o ns s) l = opt o type_word (spell_export_list ns (from_word ∷ Str s ∷ Punct Semicolon ∷ l))
spell_export (export_default_function f) l = Name (codes "default") ∷ spell_function f l
spell_export (export_default e) l = Name (codes "default") ∷ spell_ex e (Punct Semicolon ∷ l)

abbrev pub spell_item_form : ItemForm → Tokens → Tokens
spell_item_form (imports i s) l = Name (codes "import") ∷ spell_import i (Str s ∷ Punct Semicolon ∷ l)
spell_item_form (exports e) l = Name (codes "export") ∷ spell_export e l
spell_item_form (declares_item d) l = spell_declaration d (Punct Semicolon ∷ l)
spell_item_form (function_item f) l = spell_function f l
spell_item_form (alias_item a) l = spell_alias a (Punct Semicolon ∷ l)
spell_item_form (does_item s) l = spell_simple s (Punct Semicolon ∷ l)

abbrev pub spell_item : Item → Tokens → Tokens
spell_item (item f t x) l = spell_item_form x l

abbrev pub spell_items : Items → Tokens → Tokens
spell_items no_item l = l
spell_items (more_item is i) l = spell_items is (spell_item i l)

-- all tokens of a module
abbrev pub spell_module : Module → Tokens
spell_module (module_of f t is) = spell_items is []

-- The place behind a form that begins at a place.
abbrev pub stop_imported : Imported → ℕ → ℕ
stop_imported (imported f t None n) i = suc i
stop_imported (imported f t (Some w) n) i = suc (suc (suc i))

-- behind names with a comma behind each
abbrev pub stop_begun_imports : Importeds → ℕ → ℕ
stop_begun_imports no_imported i = i
stop_begun_imports (more_imported ns n) i = suc (stop_imported n (stop_begun_imports ns i))

abbrev pub stop_importeds : Importeds → ℕ → ℕ
stop_importeds no_imported i = i
stop_importeds (more_imported ns n) i = stop_imported n (stop_begun_imports ns i)

abbrev pub stop_import_list : ImportList → ℕ → ℕ
stop_import_list (import_list f t ns c) i = suc (bump c (stop_importeds ns (suc i)))

abbrev pub stop_exported : Exported → ℕ → ℕ
stop_exported (exported f t n None) i = suc i
stop_exported (exported f t n (Some w)) i = suc (suc (suc i))

-- behind names with a comma behind each
abbrev pub stop_begun_exports : Exporteds → ℕ → ℕ
stop_begun_exports no_exported i = i
stop_begun_exports (more_exported ns n) i = suc (stop_exported n (stop_begun_exports ns i))

abbrev pub stop_exporteds : Exporteds → ℕ → ℕ
stop_exporteds no_exported i = i
stop_exporteds (more_exported ns n) i = stop_exported n (stop_begun_exports ns i)

abbrev pub stop_export_list : ExportList → ℕ → ℕ
stop_export_list (export_list f t ns c) i = suc (bump c (stop_exporteds ns (suc i)))

abbrev pub stop_import : ImportForm → ℕ → ℕ
stop_import (import_default n) i = suc (suc i)
stop_import (import_both n ns) i = suc (stop_import_list ns (suc (suc i)))
stop_import (import_names ns) i = suc (stop_import_list ns i)
stop_import (import_types ns) i = suc (stop_import_list ns (suc i))
stop_import import_only i = i

abbrev pub stop_alias : AliasOf → ℕ → ℕ
stop_alias (alias f t n v) i = stop v (suc (suc (suc i)))

abbrev pub stop_export : ExportForm → ℕ → ℕ
stop_export (export_declaration d) i = suc (stop_declaration d i)
stop_export (export_function f) i = stop_function f i
stop_export (export_alias a) i = suc (stop_alias a i)
stop_export (export_names o ns) i = suc (stop_export_list ns (bump o i))
stop_export (export_from o ns s) i = suc (suc (suc (stop_export_list ns (bump o i))))
stop_export (export_default_function f) i = stop_function f (suc i)
stop_export (export_default e) i = suc (stop_ex e (suc i))

abbrev pub stop_item_form : ItemForm → ℕ → ℕ
stop_item_form (imports m s) i = suc (suc (stop_import m (suc i)))
stop_item_form (exports e) i = stop_export e (suc i)
stop_item_form (declares_item d) i = suc (stop_declaration d i)
stop_item_form (function_item f) i = stop_function f i
stop_item_form (alias_item a) i = suc (stop_alias a i)
stop_item_form (does_item s) i = suc (stop_simple s i)

abbrev pub stop_item : Item → ℕ → ℕ
stop_item (item f t x) i = stop_item_form x i

abbrev pub stop_items : Items → ℕ → ℕ
stop_items no_item i = i
stop_items (more_item is n) i = stop_item n (stop_items is i)

-- A form that begins at place i keeps the grammar's conditions, and its numbers are the places of its tokens.
abbrev pub FitsImported : Imported → ℕ → Type 0
FitsImported (imported f t None n) i = (f ≡ i) × (t ≡ suc i) × IsName n
FitsImported (imported f t (Some w) n) i = (f ≡ i) × (t ≡ suc (suc (suc i))) × IsName n

abbrev pub FitsImporteds : Importeds → ℕ → Type 0
FitsImporteds no_imported i = Unit {0}
FitsImporteds (more_imported ns n) i = FitsImporteds ns i × FitsImported n (stop_begun_imports ns i)

abbrev pub FitsImportList : ImportList → ℕ → Type 0
FitsImportList (import_list f t ns c) i =
    (f ≡ i) × (t ≡ suc (bump c (stop_importeds ns (suc i)))) × FitsImporteds ns (suc i) × CommaFits c (has_importeds ns)

abbrev pub FitsExported : Exported → ℕ → Type 0
FitsExported (exported f t n None) i = (f ≡ i) × (t ≡ suc i)
FitsExported (exported f t n (Some w)) i = (f ≡ i) × (t ≡ suc (suc (suc i)))

abbrev pub FitsExporteds : Exporteds → ℕ → Type 0
FitsExporteds no_exported i = Unit {0}
FitsExporteds (more_exported ns n) i = FitsExporteds ns i × FitsExported n (stop_begun_exports ns i)

abbrev pub FitsExportList : ExportList → ℕ → Type 0
FitsExportList (export_list f t ns c) i =
    (f ≡ i) × (t ≡ suc (bump c (stop_exporteds ns (suc i)))) × FitsExporteds ns (suc i) × CommaFits c (has_exporteds ns)

-- what is exported from this module is a name
abbrev pub AreNames : Exporteds → Type 0
AreNames no_exported = Unit {0}
AreNames (more_exported ns (exported f t n w)) = AreNames ns × IsName n

-- the list exports what has a name in this module
abbrev pub AreLocal : ExportList → Type 0
AreLocal (export_list f t ns c) = AreNames ns

abbrev pub FitsImport : ImportForm → ℕ → Type 0
FitsImport (import_default n) i = IsName n
FitsImport (import_both n ns) i = IsName n × FitsImportList ns (suc (suc i))
FitsImport (import_names ns) i = FitsImportList ns i
FitsImport (import_types ns) i = FitsImportList ns (suc i)
FitsImport import_only i = Unit {0}

-- the names of types that the language gives
abbrev pub base_names : List Bytes
base_names =
    codes "any" ∷ codes "mixed" ∷ codes "empty" ∷ codes "number" ∷ codes "string" ∷ codes "boolean" ∷ codes "Array" ∷ codes "$ReadOnlyArray" ∷ []

-- the name is no word of the list
abbrev pub IsNoneOf : List Bytes → Bytes → Type 0
IsNoneOf [] n = Unit {0}
IsNoneOf (w ∷ ws) n = (n ≡ w → ⊥) × IsNoneOf ws n

-- an alias bears no name of a type that the language gives
abbrev pub FitsAlias : AliasOf → ℕ → Type 0
FitsAlias (alias f t n v) i = (f ≡ i) × (t ≡ stop v (suc (suc (suc i)))) × IsName n × IsNoneOf base_names n × Fits v (suc (suc (suc i)))

-- a function behind `export` has a name, and behind `default` it needs none
abbrev pub FitsExport : ExportForm → ℕ → Type 0
FitsExport (export_declaration d) i = FitsDeclaration d i
FitsExport (export_function f) i = IsNamed f × FitsFunction f i
FitsExport (export_alias a) i = FitsAlias a i
FitsExport (export_names o ns) i = AreLocal ns × FitsExportList ns (bump o i)
FitsExport (export_from o ns s) i = FitsExportList ns (bump o i)
FitsExport (export_default_function f) i = FitsFunction f (suc i)
FitsExport (export_default e) i = BeginsNot (Name (codes "function")) e × FitsEx e (suc i)

-- at top level a simple statement is an assignment or an expression
abbrev pub IsTopForm : SimpleForm → Type 0
IsTopForm (assign a e) = Unit {0}
IsTopForm (evaluate e) = Unit {0}
IsTopForm s = ⊥

-- the simple statement may stand at top level
abbrev pub IsTop : Simple → Type 0
IsTop (simple f t s) = IsTopForm s

-- the first token is a word
abbrev pub begins_word : Tokens → Bool
begins_word (Name n ∷ l) = true
begins_word l = false

-- `type` and a word begin an alias, and no other item
abbrev pub begins_alias : Tokens → Bool
begins_alias (Name n ∷ l) = bytes_eq n (codes "type") && begins_word l
begins_alias l = false

-- whatever comes behind the statement's semicolon
abbrev pub BeginsNoAlias : Simple → Type 0
BeginsNoAlias s = (l : Tokens) → begins_alias (spell_simple s (Punct Semicolon ∷ l)) ≡ false

-- outside functions and loops
abbrev pub top_context : Context
top_context = inside false false

-- a simple statement at top level does not begin as an alias does
abbrev pub FitsItemForm : ItemForm → ℕ → Type 0
FitsItemForm (imports m s) i = FitsImport m (suc i)
FitsItemForm (exports e) i = FitsExport e (suc i)
FitsItemForm (declares_item d) i = FitsDeclaration d i
FitsItemForm (function_item f) i = IsNamed f × FitsFunction f i
FitsItemForm (alias_item a) i = FitsAlias a i
FitsItemForm (does_item s) i = IsTop s × BeginsNoAlias s × FitsSimple s top_context i

abbrev pub FitsItem : Item → ℕ → Type 0
FitsItem (item f t x) i = (f ≡ i) × (t ≡ stop_item_form x i) × FitsItemForm x i

abbrev pub FitsItems : Items → ℕ → Type 0
FitsItems no_item i = Unit {0}
FitsItems (more_item is n) i = FitsItems is i × FitsItem n (stop_items is i)

-- a module begins at place 0
abbrev pub FitsModule : Module → Type 0
FitsModule (module_of f t is) = (f ≡ 0) × (t ≡ stop_items is 0) × FitsItems is 0
