-- The names that are reached from others through aliases.
use Rattle.std.specs.Prelude.{◌≡◌, ◌⊎◌, ℕ, Bool, true, List, length, Some, if◌then◌else◌}
use Rattle.std.specs.List.{sum_by}
use Rattle.check_values.specs.Rows.{Bytes, Rows, row_at, is_among}
use Rattle.type_values.specs.declared.types.FlowType.{FlowType}
use Rattle.local_signatures.specs.LocalSignature.{led_to_by_type}

-- one to start from, or one in the type of an alias that is reached
pub data IsReachedFrom (aliases : Rows FlowType) (starts : List Bytes) : Bytes → Type 0 where
  by_start : (word : Bytes) → is_among starts word ≡ true → IsReachedFrom aliases starts word
  by_alias : (word next : Bytes) (t : FlowType) → IsReachedFrom aliases starts word → row_at aliases word ≡ Some t → is_among (led_to_by_type t) next ≡ true → IsReachedFrom aliases starts next

-- it is among the names, or waits
abbrev pub IsMet : (Bytes → Bool) → List Bytes → Bytes → Type 0
IsMet names waiting word = (names word ≡ true) ⊎ (is_among waiting word ≡ true)

-- a search: what is met is reached, what starts is met, and with each alias among the names the names in its type
pub record Reaches (aliases : Rows FlowType) (starts : List Bytes) (names : Bytes → Bool) (waiting : List Bytes) : Type 0 where
  pub sound : (word : Bytes) → IsMet names waiting word → IsReachedFrom aliases starts word
  pub begun : (word : Bytes) → is_among starts word ≡ true → IsMet names waiting word
  pub closed : (word next : Bytes) (t : FlowType) → names word ≡ true → row_at aliases word ≡ Some t → is_among (led_to_by_type t) next ≡ true → IsMet names waiting next

-- how many names stand in the types of the aliases that are not among the names
abbrev pub unread : (Bytes → Bool) → Rows FlowType → ℕ
unread names aliases = sum_by (λ row. if names row.0 then 0 else length (led_to_by_type row.1)) aliases
