-- What a name tells that is exported as a type.
use Rattle.std.proofs.Common.{◌≡◌, Bool, true, Option, sym, ap, ◌∙◌}
use Rattle.check_values.specs.Rows.{Bytes, row_at}
use Rattle.local_signatures.specs.Scope.{Binding, Scope}
use Rattle.local_signatures.specs.Exports.{Told, told_binding, told_name}
use Rattle.sig_extract.specs.Seen.{TellsAsType}

pub as_type : (scope : Scope) (word : Bytes) (bound : Option Binding) (told : Told) (is_type : Bool) → is_type ≡ true → bound ≡ row_at scope word → TellsAsType told word bound → told ≡ told_name scope is_type word
as_type scope word bound told is_type on is tells = tells scope ∙ ap (told_binding scope true word) is ∙ ap (λ (b : Bool). told_name scope b word) (sym on)
