-- A signature by the names that are reached.
use Rattle.std.proofs.Common.{◌≡◌, ◌↔◌, ◌∙◌, Bool, true, false, List, map, filter, sym, subst, subst₂}
use Rattle.std.specs.Bool.{IsTrue}
use Rattle.check_values.specs.Rows.{Bytes, Rows, by_name, is_among}
use Rattle.check_values.specs.declared.signatures.ImportRow.{ImportRow}
use Rattle.check_values.specs.declared.signatures.LocalSig.{LocalSig}
use Rattle.type_values.specs.declared.types.FlowType.{FlowType}
use Rattle.local_signatures.specs.Exports.{Told, origin_of}
use Rattle.local_signatures.specs.LocalSignature.{AreChosen}
use Rattle.local_signatures.proofs.Choosing.{filter_chosen}
use Rattle.told_signature.specs.Reaching.{IsReachedFrom, by_start, by_alias}
use Rattle.told_signature.specs.Signing.{led_to_by_all, IsSignatureOf}

-- the same names to start from, however often each stands there
same_reached : (rows : Rows FlowType) (starts others : List Bytes) → ((w : Bytes) → is_among starts w ≡ is_among others w) → (w : Bytes) → IsReachedFrom rows starts w → IsReachedFrom rows others w
same_reached rows starts others same _ (by_start w is) = by_start w (sym (same w) ∙ is)
same_reached rows starts others same _ (by_alias word w t before row led) = by_alias word w t (same_reached rows starts others same word before) row led

pub signed : (told : Rows Told) (aliases : Rows FlowType) (imports : List ImportRow) (has : Bytes → Bool) (rows : Rows FlowType) (starts : List Bytes) (s : LocalSig) → rows ≡ by_name aliases → ((w : Bytes) → is_among starts w ≡ is_among (led_to_by_all told) w) →
    ((w : Bytes) → IsTrue (has w) ↔ IsReachedFrom rows starts w) → s.broken ≡ false → s.exports ≡ map (λ row. (row.0, origin_of row.1)) told → s.aliases ≡ filter (λ row. has row.0) rows →
    s.imports ≡ filter (λ row. has row.local) imports → IsSignatureOf told aliases imports s
signed told aliases imports has rows starts s ordered begun reach unbroken exports kept_aliases kept_imports = record {
  unbroken = unbroken;
  exports = exports;
  aliases = subst₂ (AreChosen (λ row. IsReachedFrom (by_name aliases) (led_to_by_all told) row.0)) ordered (sym kept_aliases) (filter_chosen _ (λ row. has row.0) (λ row. from row.0) (λ row. to row.0) rows);
  imports = subst (AreChosen (λ row. IsReachedFrom (by_name aliases) (led_to_by_all told) row.local) imports) (sym kept_imports) (filter_chosen _ (λ row. has row.local) (λ row. from row.local) (λ row. to row.local) imports);
}
  where
    from : (w : Bytes) → has w ≡ true → IsReachedFrom (by_name aliases) (led_to_by_all told) w
    from w is = same_reached (by_name aliases) starts (led_to_by_all told) begun w (subst (λ (p : Rows FlowType). IsReachedFrom p starts w) ordered ((reach w).0 is))

    to : (w : Bytes) → IsReachedFrom (by_name aliases) (led_to_by_all told) w → has w ≡ true
    to w is = (reach w).1 (subst (λ (p : Rows FlowType). IsReachedFrom p starts w) (sym ordered) (same_reached (by_name aliases) (led_to_by_all told) starts (λ w. sym (begun w)) w is))
