-- The path of a generated module is a normal one.
use Rattle.std.proofs.Common.{◌≡◌, ℕ, ◌<◌, ◌≤◌, ◌+◌, ◌-◌, ◌^◌, ◌==◌, [], ◌∷◌, ◌++◌, length, drop, false, refl, ap, ◌∙◌, arith}
use Rattle.std.specs.Prelude.{All, nat_eq}
use Rattle.std.specs.List.{AllByRecursion}
use Rattle.std.specs.Fmt.{decimal}
use Rattle.std.specs.Int.{IsInRange}
use Rattle.std.specs.Str.{IsAscii}
use Rattle.std.specs.Str.Parse.{AllDigits}
use Rattle.std.proofs.lemmas.Fmt.{IsAscii-decimal, decimal_is_IsNumeral, length-decimal-le}
use Rattle.std.specs.Cmp.Lexicographic.{pointwise}
use Rattle.std.proofs.lemmas.List.{length-append}
use Rattle.std.proofs.Math.Seq.{drop-append_seam}
use Rattle.std.proofs.lemmas.List.Elements.{All-from_recursion}
use Rattle.std.proofs.lemmas.Str.{IsUtf8-from_ascii, IsAscii-append}
use Rattle.std.proofs.lemmas.Str.Ascii.{IsAscii-cons, IsAscii-nil}
use Rattle.std.proofs.lemmas.Str.Parse.{digit_from_value}
use Rattle.flow_values.specs.Path.{Bytes, IsNormalPath, JS}
use Rattle.generator.specs.Modules.{path_of}

-- a property of each byte of the path: of `m`, of the digits, and of `.js`
each_digit : (P : ℕ → Type 0) → ((b : ℕ) → IsInRange 48 57 b → P b) → (ds : Bytes) → AllDigits 10 ds → AllByRecursion P ds
each_digit P of [] digits = tt
each_digit P of (d ∷ ds) digits = (of d (digit_from_value d digits.0), each_digit P of ds digits.1)

each_both : (P : ℕ → Type 0) (xs ys : Bytes) → AllByRecursion P xs → AllByRecursion P ys → AllByRecursion P (xs ++ ys)
each_both P [] ys a b = b
each_both P (x ∷ xs) ys a b = (a.0, each_both P xs ys a.1 b)

each : (P : ℕ → Type 0) (i : ℕ) → i < 2 ^ 64 → P 109 → ((b : ℕ) → IsInRange 48 57 b → P b) → P 46 → P 106 → P 115 → All P (path_of i)
each P i few m digit dot j s =
    All-from_recursion P (path_of i) (m, each_both P (decimal i) JS (each_digit P digit (decimal i) (decimal_is_IsNumeral i few).0.1) (dot, (j, (s, tt))))

no_slash : (b : ℕ) → IsInRange 48 57 b → (b == 47) ≡ false
no_slash b is = grind (arith, is)

cut_front : (xs ys : Bytes) → drop (length (xs ++ ys) - length ys) (xs ++ ys) ≡ ys
cut_front xs ys = let e : length (xs ++ ys) - length ys ≡ length xs = omega (arith, length-append xs ys) in ap (λ n. drop n (xs ++ ys)) e ∙ drop-append_seam xs ys

not_empty : (l : Bytes) → 109 ∷ l ≡ [] → ⊥
not_empty l is = cc

first_byte : (a b : ℕ) (l m : Bytes) → a ∷ l ≡ b ∷ m → a ≡ b
first_byte a b l m is = cc

not_here : (l : Bytes) → 109 ∷ l ≡ 46 ∷ [] → ⊥
not_here l is = omega (arith, first_byte 109 46 l [] is)

not_above : (l : Bytes) → 109 ∷ l ≡ 46 ∷ 46 ∷ [] → ⊥
not_above l is = omega (arith, first_byte 109 46 l (46 ∷ []) is)

pub is_normal : (i : ℕ) → i < 2 ^ 64 → IsNormalPath (path_of i)
is_normal i few = record {
  some = omega (arith, long);
  short = omega (arith, long, length-decimal-le 20 i (omega arith) (omega (arith, few)) few);
  text = IsUtf8-from_ascii (path_of i) (IsAscii-cons 109 (decimal i ++ JS) (omega arith) (IsAscii-append (decimal i) JS (IsAscii-decimal i few) ascii_js));
  printed = each (λ b. 32 ≤ b) i few (omega arith) (λ b is. omega (arith, is.0)) (omega arith) (omega arith) (omega arith);
  ending = ap (λ l. pointwise nat_eq JS l) (cut_front (109 ∷ decimal i) JS);
  parts = (path_of i ∷ [], (record { whole = each (λ b. (b == 47) ≡ false) i few refl no_slash refl refl refl; not_empty = not_empty (decimal i ++ JS); not_here = not_here (decimal i ++ JS); not_above = not_above (decimal i ++ JS) }, tt), refl);
} where
  long : length (path_of i) ≡ 1 + (length (decimal i) + 3)
  long = omega (arith, length-append (decimal i) JS)

  ascii_js : IsAscii JS
  ascii_js = IsAscii-cons 46 (106 ∷ 115 ∷ []) (omega arith) (IsAscii-cons 106 (115 ∷ []) (omega arith) (IsAscii-cons 115 [] (omega arith) IsAscii-nil))
