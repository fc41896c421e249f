-- Numbers of at most twenty digits.
use Rattle.std.proofs.Common.{◌≡◌, ℕ, ◌+◌, ◌-◌, ◌*◌, ◌^◌, ◌<◌, length, take, get_or, true, false, Bool, sym, ◌∙◌, arith}
use Rattle.std.specs.Prelude.{leb, ◌&&◌}
use Rattle.std.specs.Str.{all_ascii_digits}
use Rattle.std.specs.Char.{digit_value}
use Rattle.std.specs.Int.{IsInRange}
use Rattle.std.specs.Str.Parse.{digits_value}
use Rattle.std.proofs.lemmas.Bool.{leb-true}
use Rattle.std.proofs.lemmas.Int.Digits.{digits_value_more}
use Rattle.std.proofs.lemmas.Str.{digit_value_digit}
use Rattle.std.proofs.lemmas.Str.Parse.{numerals_by_value, tells_all_ascii_digits, tells_digits, digits_value_short, digits_value-take-le, digit_at}
use Rattle.flow_values.specs.Path.{Bytes}
use Rattle.command_words.specs.Words.{IsDigits}
use Rattle.command_words.specs.Reading.{is_numeral}

both : (a b : Bool) → (a && b) ≡ true → (a ≡ true) × (b ≡ true)
both true b is = (refl_true, is) where
  refl_true : true ≡ true
  refl_true i = true
both false b is = (is, absurd_by is) where
  absurd_by : {B : Bool} → ◌≡◌ {A = Bool} false true → B ≡ true
  absurd_by is = cc

pub are_digits : (word : Bytes) → is_numeral word ≡ true → IsDigits word
are_digits word is =
    let parts = both (leb 1 (length word)) (leb (length word) 20 && all_ascii_digits word) is in
    let more = both (leb (length word) 20) (all_ascii_digits word) parts.1 in
    ((omega (arith, leb-true 1 (length word) parts.0), (numerals_by_value _ tells_all_ascii_digits).to word more.1), leb-true (length word) 20 more.0)

pub fits : (digits : Bytes) (i : ℕ) → IsDigits digits → digits_value 10 (take i digits) < 10 ^ 20
fits digits i is = omega (arith, digits_value-take-le 10 digits i (omega arith), digits_value_short (numerals_by_value _ tells_digits) digits 20 is.0.1 is.1)

pub is_digit : (digits : Bytes) (i : ℕ) → IsDigits digits → i < length digits → IsInRange 48 57 (get_or digits i 0)
is_digit digits i is within = digit_at digits i is.0.1 within

pub with_digit : (digits : Bytes) (i value : ℕ) → IsDigits digits → i < length digits → value ≡ digits_value 10 (take i digits) → value * 10 + (get_or digits i 0 - 48) ≡ digits_value 10 (take (i + 1) digits)
with_digit digits i value is within so_far =
    let digit : get_or digits i 0 - 48 ≡ digit_value (get_or digits i 0) = omega (arith, digit_value_digit (get_or digits i 0) (is_digit digits i is within)) in
    (λ j. so_far j * 10 + digit j) ∙ sym (digits_value_more 10 digits i within)
