-- What the code's rows of trees stand for.
use Rattle.std.specs.Prelude.{◌≡◌, Bool, true, false, List, [], ◌∷◌, Option, Some, None, unwrap_or}
use denote.Ref.{Bor}
use Rattle.check_values.specs.Rows.{Bytes, Rows}
use Rattle.code_tree.specs.View.{declaration_view, function_view}
use Rattle.type_tree.specs.View.{type_view}
use Rattle.local_signatures.specs.Scope as s
use Rattle.local_signatures.specs.Exports as e
use Rattle.named_rows.specs.Seen.{seen}
use Rattle.told_signature.specs.declared.telling.Said.{Said}
use Rattle.told_signature.specs.Seen.{name_there, said_view}
use Rattle.js_tree.specs.declared.items.Exported.{Exported}
use Rattle.sig_extract.specs.declared.binding.Binding.{Binding}
use Rattle.sig_extract.specs.declared.binding.Binding.TheVariants as binding

abbrev pub binding_view : Binding → s.Binding
binding_view (binding.Import spec name is_type) = s.bound_import spec.now (name_there name) is_type
binding_view (binding.Variable d) = s.bound_variable (declaration_view d.now)
binding_view (binding.Function f) = s.bound_function (function_view f.now)
binding_view (binding.Alias t) = s.bound_alias (type_view t.now)

-- what exports tell by the scope of their module
abbrev pub rows_told : s.Scope → List (Bytes × Said) → Rows e.Told
rows_told scope rows = seen (said_view (e.told_name scope false)) rows

-- what a name in the braces of an export tells
abbrev pub listed : (Bytes → e.Told) → Exported → Rows e.Told
listed tells n = (unwrap_or n.renamed n.name, tells n.name) ∷ []

-- what a name tells that is bound so and exported as a type, in any scope
abbrev pub TellsAsType : e.Told → Bytes → Option s.Binding → Type 0
TellsAsType told word bound = (scope : s.Scope) → told ≡ e.told_binding scope true word bound

-- the row of what a name tells as a value that is bound so
abbrev pub named_row : s.Scope → Bytes × s.Binding → Bytes × e.Told
named_row scope row = (row.0, e.told_binding scope false row.0 (Some row.1))

-- what a name in braces tells, of this module or of another one
abbrev pub told_there : s.Scope → Bool → Option (Bor Bytes) → Bytes → e.Told
told_there scope is_type None word = e.told_name scope is_type word
told_there scope is_type (Some specifier) word = e.told_elsewhere specifier.now word is_type
