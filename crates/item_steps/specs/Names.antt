-- The names of a list in braces, apart from where the list stands.
use Rattle.std.specs.Prelude.{ℕ, Bool, true, not, Option, Some, None, [], if◌then◌else◌}
use Rattle.js_token.specs.Words.{is_reserved}
use Rattle.js_token.specs.declared.token.TokenKind.{TokenKind}
use Rattle.js_grammar.specs.Words.{Bytes}
use Rattle.js_grammar.specs.Items.{more_imported, imported, more_exported, exported, has_importeds, has_exporteds}
use Rattle.js_tree.specs.declared.items.Exported.{Exported}
use Rattle.code_law.specs.Frames.{Names, importing, exporting, Listing, Step, fault}
use Rattle.code_law.specs.Modules.{may_name, add_name, pair_step}

-- with a further one: a word at f, and a word behind `as` or none, up to t
abbrev pub with_name : Names → ℕ → ℕ → Bytes → Option Bytes → Names
with_name (importing ns) f t n None = importing (more_imported ns (imported f t None n))
with_name (importing ns) f t w (Some n) = importing (more_imported ns (imported f t (Some w) n))
with_name (exporting ns) f t n o = exporting (more_exported ns (exported f t n o))

abbrev pub any_name : Names → Bool
any_name (importing ns) = has_importeds ns
any_name (exporting ns) = has_exporteds ns

-- whether the word may stand among them
abbrev pub takes_word : Names → Bytes → Bool
takes_word (importing ns) n = not (is_reserved n)
takes_word (exporting ns) n = true

-- whether what is exported is a name
abbrev pub is_name : Exported → Bool
is_name n = not (is_reserved n.name)

-- a token that ends a name without `as`
abbrev pub name_ends : ℕ → Listing → ℕ → Bytes → TokenKind → Step
name_ends i q p n x = if may_name q n then pair_step i [] (add_name q p i n None) x else fault
