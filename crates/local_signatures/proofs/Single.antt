-- A module has one local signature.
use Rattle.std.proofs.Common.{◌≡◌, Bool, false, List, refl, sym, subst}
use Rattle.check_values.specs.Rows.{Rows, is_among}
use Rattle.check_values.specs.declared.signatures.Origin.{Origin}
use Rattle.check_values.specs.declared.signatures.ImportRow.{ImportRow}
use Rattle.check_values.specs.declared.signatures.LocalSig.{LocalSig}
use Rattle.type_values.specs.declared.types.FlowType.{FlowType}
use Rattle.js_grammar.specs.Items.{Module}
use Rattle.local_signatures.specs.LocalSignature.{exports_of, aliases_of, imports_of, reached_names, Reached, IsLocalSignature, local_signature, HasOneLocalSignature}
use Rattle.local_signatures.proofs.Reaching.{sound, complete}
use Rattle.local_signatures.proofs.Choosing.{filter_chosen, chosen_filter}

module _ (m : Module) where
  has : IsLocalSignature m (local_signature m)
  has = record {
    unbroken = refl;
    exports = refl;
    aliases = filter_chosen (λ row. Reached m row.0) (λ row. is_among (reached_names m) row.0) (λ row. sound m row.0) (λ row. complete m row.0) (aliases_of m);
    imports = filter_chosen (λ row. Reached m row.local) (λ row. is_among (reached_names m) row.local) (λ row. sound m row.local) (λ row. complete m row.local) (imports_of m);
  }

  -- a signature with these parts
  of_parts : (b : Bool) (e : Rows Origin) (a : Rows FlowType) (i : List ImportRow) → LocalSig
  of_parts b e a i = record { broken = b; exports = e; aliases = a; imports = i }

  same_parts : (b c : Bool) (e f : Rows Origin) (a g : Rows FlowType) (i j : List ImportRow) → b ≡ c → e ≡ f → a ≡ g → i ≡ j → of_parts b e a i ≡ of_parts c f g j
  same_parts b c e f a g i j p q r s = λ k. of_parts (p k) (q k) (r k) (s k)

  only : (s : LocalSig) → IsLocalSignature m s → s ≡ local_signature m
  unfolding of_parts
  only s is = same_parts s.broken false s.exports (exports_of m) s.aliases _ s.imports _ is.unbroken is.exports
      (chosen_filter (λ row. Reached m row.0) (λ row. is_among (reached_names m) row.0) (λ row. sound m row.0) (λ row. complete m row.0) (aliases_of m) s.aliases is.aliases)
      (chosen_filter (λ row. Reached m row.local) (λ row. is_among (reached_names m) row.local) (λ row. sound m row.local) (λ row. complete m row.local) (imports_of m) s.imports is.imports)

pub one_local_signature : HasOneLocalSignature
one_local_signature m s = (only m s, λ same. subst (IsLocalSignature m) (sym same) (has m))
