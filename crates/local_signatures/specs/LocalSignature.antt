-- The local signature of a module.
use Rattle.std.specs.Prelude.{◌≡◌, ◌↔◌, ℕ, zero, suc, true, false, List, [], ◌∷◌, ◌++◌, map, length, filter, Option, Some, None}
use Rattle.std.specs.List.{flat_map, filter_map}
use Rattle.check_values.specs.Rows.{Bytes, Rows, row_at, is_among, distinct, by_name}
use Rattle.check_values.specs.declared.signatures.Origin.{Origin}
use Rattle.check_values.specs.declared.signatures.ImportRow.{ImportRow}
use Rattle.check_values.specs.declared.signatures.LocalSig.{LocalSig}
use Rattle.js_grammar.specs.Items.{Module}
use Rattle.type_values.specs.declared.types.FlowType.{FlowType}
use Rattle.type_names.specs.Names.{names_in}
use Rattle.local_signatures.specs.Scope.{Binding, bound_import, bound_alias, Scope, scope_of, local_type}
use Rattle.local_signatures.specs.Exports.{told_in, origin_of, led_to}

-- the exports of a module with their origins, in order of their names
abbrev pub exports_of : Module → Rows Origin
exports_of m = map (λ row. (row.0, origin_of row.1)) (told_in m)

-- the row of a name that is bound to an alias
abbrev pub alias_row : Scope → Bytes × Binding → Option (Bytes × FlowType)
alias_row scope (word, bound_alias t) = Some (word, local_type scope t)
alias_row scope row = None

-- all aliases of a module, in order of their names
abbrev pub aliases_of : Module → Rows FlowType
aliases_of m = by_name (filter_map (alias_row (scope_of m)) (scope_of m))

-- the row of a name that is bound to an import
abbrev pub import_row : Bytes × Binding → Option ImportRow
import_row (word, bound_import spec outer is_type) = Some (record { local = word; spec = spec; name = outer; is_type = is_type })
import_row row = None

-- all imported names of a module, in order
abbrev pub imports_of : Module → List ImportRow
imports_of m = filter_map import_row (scope_of m)

-- the names that exports lead to
abbrev pub led_to_by_exports : Module → List Bytes
led_to_by_exports m = flat_map (λ row. led_to row.1) (told_in m)

-- the names in an alias's type
abbrev pub led_to_by_type : FlowType → List Bytes
led_to_by_type t = map (λ n. n.1) (names_in t)

-- The names that a module's exports reach: those that they lead to, and those that the type of a reached alias has.
pub data Reached (m : Module) : Bytes → Type 0 where
  by_export : (word : Bytes) → is_among (led_to_by_exports m) word ≡ true → Reached m word
  by_alias : (word next : Bytes) (t : FlowType) → Reached m word → row_at (aliases_of m) word ≡ Some t → is_among (led_to_by_type t) next ≡ true → Reached m next

-- chosen is the list of those elements of all for which P holds, in their order
pub data AreChosen {X : Type 0} (P : X → Type 0) : List X → List X → Type 0 where
  none_left : AreChosen P [] []
  is_chosen : (x : X) (all chosen : List X) → P x → AreChosen P all chosen → AreChosen P (x ∷ all) (x ∷ chosen)
  not_chosen : (x : X) (all chosen : List X) → (P x → ⊥) → AreChosen P all chosen → AreChosen P (x ∷ all) chosen

-- It has all exports, and the aliases and imports that they reach.
pub record IsLocalSignature (m : Module) (s : LocalSig) : Type 0 where
  pub unbroken : s.broken ≡ false
  pub exports : s.exports ≡ exports_of m
  pub aliases : AreChosen (λ row. Reached m row.0) (aliases_of m) s.aliases
  pub imports : AreChosen (λ row. Reached m row.local) (imports_of m) s.imports

-- the signature of a source that has no tree
abbrev pub broken_signature : LocalSig
broken_signature = record { broken = true; exports = []; aliases = []; imports = [] }

-- The same, as a function. A round adds the names that the aliases among the names lead to. Each round but the last comes to
-- an alias that wasn't there before.
abbrev pub led_to_by : Option FlowType → List Bytes
led_to_by None = []
led_to_by (Some t) = led_to_by_type t

-- the names, and those to which the aliases among them lead
abbrev pub next_names : Rows FlowType → List Bytes → List Bytes
next_names aliases words = distinct (words ++ flat_map (λ word. led_to_by (row_at aliases word)) words)

-- the names after so many rounds
abbrev pub names_after : Rows FlowType → ℕ → List Bytes → List Bytes
names_after aliases zero words = words
names_after aliases (suc rounds) words = names_after aliases rounds (next_names aliases words)

-- the names that a module's exports reach
abbrev pub reached_names : Module → List Bytes
reached_names m = names_after (aliases_of m) (suc (length (aliases_of m))) (led_to_by_exports m)

-- the one local signature of a module
abbrev pub local_signature : Module → LocalSig
local_signature m =
    record {
      broken = false;
      exports = exports_of m;
      aliases = filter (λ row. is_among (reached_names m) row.0) (aliases_of m);
      imports = filter (λ row. is_among (reached_names m) row.local) (imports_of m);
    }

-- the signature of a source, by its tree where it has one
abbrev pub signature_of : Option Module → LocalSig
signature_of None = broken_signature
signature_of (Some m) = local_signature m

-- a module has one local signature, and it is that one
abbrev pub HasOneLocalSignature : Type 0
HasOneLocalSignature = (m : Module) (s : LocalSig) → IsLocalSignature m s ↔ (s ≡ local_signature m)
