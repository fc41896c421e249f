-- The names that exports lead to, each name of the module looked at once.
use Rattle.std.specs.Prelude.{◌≡◌, ◌++◌, ◌∷◌, [], Bool, true, List}
use Rattle.check_values.specs.Rows.{Bytes, Rows, is_among}
use Rattle.local_signatures.specs.Exports.{Told, led_to}
use Rattle.told_signature.specs.Signing.{led_to_by_all}

-- the names so far: those that the rows lead to, and all to which the names lead that were looked at
pub record Leads (named : Bytes → Told) (met : Bytes → Bool) (names : List Bytes) (rows : Rows Told) : Type 0 where
  pub same : (word : Bytes) → is_among names word ≡ is_among (led_to_by_all rows) word
  pub whole : (at word : Bytes) → met at ≡ true → is_among (led_to (named at)) word ≡ true → is_among names word ≡ true

-- with one row more, from some names to others
abbrev pub LeadsOn : (Bytes → Told) → Told → (Bytes → Bool) → List Bytes → (Bytes → Bool) → List Bytes → Type 0
LeadsOn named told met names met' names' = (rows : Rows Told) (name : Bytes) → Leads named met names rows → Leads named met' names' (rows ++ (name, told) ∷ [])
