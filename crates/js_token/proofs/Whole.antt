-- A number whose first digit is not `0`.
use Rattle.std.proofs.Common.{◌≡◌, ◌≢◌, ℕ, ◌<◌, List, [], ◌∷◌, length, get_or, arith, refl}
use Rattle.std.specs.List.{list_all}
use Rattle.std.specs.Char.{is_ascii_digit}
use Rattle.std.proofs.lemmas.Bool.{ne_eqb}
use Rattle.js_token.specs.Words.{is_whole}

pub without_zero : (s : List ℕ) → 0 < length s → get_or s 0 0 ≢ 48 → is_whole s ≡ list_all is_ascii_digit s
without_zero [] some other = absurd (omega arith)
without_zero (d ∷ ds) some other = rw (ne_eqb d 48 other) refl
