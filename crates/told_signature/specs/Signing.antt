-- A signature by what exports tell.
use Rattle.std.specs.Prelude.{◌≡◌, false, List, map}
use Rattle.std.specs.List.{flat_map}
use Rattle.check_values.specs.Rows.{Bytes, Rows, by_name}
use Rattle.check_values.specs.declared.signatures.ImportRow.{ImportRow}
use Rattle.check_values.specs.declared.signatures.LocalSig.{LocalSig}
use Rattle.type_values.specs.declared.types.FlowType.{FlowType}
use Rattle.local_signatures.specs.Exports.{Told, origin_of, led_to}
use Rattle.local_signatures.specs.LocalSignature.{AreChosen}
use Rattle.told_signature.specs.Reaching.{IsReachedFrom}

-- the names that exports lead to
abbrev pub led_to_by_all : Rows Told → List Bytes
led_to_by_all told = flat_map (λ row. led_to row.1) told

-- all exports, and those of the known aliases and of the imports that they reach
pub record IsSignatureOf (told : Rows Told) (known : Rows FlowType) (imported : List ImportRow) (s : LocalSig) : Type 0 where
  pub unbroken : s.broken ≡ false
  pub exports : s.exports ≡ map (λ row. (row.0, origin_of row.1)) told
  pub aliases : AreChosen (λ row. IsReachedFrom (by_name known) (led_to_by_all told) row.0) (by_name known) s.aliases
  pub imports : AreChosen (λ row. IsReachedFrom (by_name known) (led_to_by_all told) row.local) imported s.imports
