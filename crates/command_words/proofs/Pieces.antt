-- Words that are pieces, read one by one.
use Rattle.std.proofs.Common.{◌≡◌, ℕ, suc, eqb-true, ◌+◌, [], ◌∷◌, ◌++◌, length, take, drop, Option, Some, None, Bool, true, false, refl, sym, ap, ◌∙◌, subst, arith, inl, inr}
use Rattle.std.specs.Prelude.{bytes_eq, cond, option_and_then, ◌&&◌, if◌then◌else◌, ◌==◌}
use Rattle.std.specs.List.{position_from}
use Rattle.std.specs.Str.Parse.{digits_value}
use Rattle.std.proofs.lemmas.Bool.{cases_Bool, le-leb}
use Rattle.std.proofs.lemmas.Option.{none-some, same_Some}
use Rattle.std.proofs.lemmas.Slice.Eq.{bytes_eq-Decides}
use Rattle.std.proofs.lemmas.Str.Parse.{numerals_by_value, tells_all_ascii_digits}
use Rattle.flow_values.specs.Path.{Bytes}
use Rattle.command_words.specs.declared.command.Setting.{Setting}
use Rattle.command_words.specs.declared.command.Setting.TheVariants as setting
use Rattle.command_words.specs.declared.seen.Seen.{Seen}
use Rattle.command_words.specs.Words.{name_of, root, joined, apart, is_root, IsDigits, Told, the_root, the, told_by}
use Rattle.command_words.specs.Reading as reading
use Rattle.command_words.specs.Reading.{setting_named, number_of, is_numeral, equals_in, put, put_root, waits_for, walk, step, step_at, start, dashed_at}
use Rattle.command_words.proofs.Numerals.{are_digits}
use Rattle.command_words.proofs.Slots.{number_told, root_told}

-- ---- names

pick : (P : Setting → Type 0) (b : Bool) (s t : Setting) (rest : Option Setting) → (b ≡ true → P s) → (rest ≡ Some t → P t) → (if b then Some s else rest) ≡ Some t → P t
pick P true s t rest here later is = subst P (same_Some s t is) (here refl)
pick P false s t rest here later is = later is

pub is_named : (word : Bytes) (s : Setting) → setting_named word ≡ Some s → word ≡ name_of s
is_named word s =
    let is : (t : Setting) → bytes_eq word (name_of t) ≡ true → word ≡ name_of t = λ t. (bytes_eq-Decides word (name_of t)).0 in
    let P : Setting → Type 0 = λ t. word ≡ name_of t in
    pick P _ setting.Workers s _ (is setting.Workers)
    (pick P _ setting.Lanes s _ (is setting.Lanes)
    (pick P _ setting.Modules s _ (is setting.Modules)
    (pick P _ setting.Generated s _ (is setting.Generated)
    (pick P _ setting.Seed s None (is setting.Seed) (λ none. absurd (none-some s none))))))

pub named : (s : Setting) → setting_named (name_of s) ≡ Some s
named setting.Workers = refl
named setting.Lanes = refl
named setting.Modules = refl
named setting.Generated = refl
named setting.Seed = refl

pub no_root : (s : Setting) (more : Bytes) → is_root (name_of s ++ more) ≡ false
no_root setting.Workers more = refl
no_root setting.Lanes more = refl
no_root setting.Modules more = refl
no_root setting.Generated more = refl
no_root setting.Seed more = refl

pub not_bare : (s : Setting) (value : Bytes) → setting_named (name_of s ++ (61 ∷ value)) ≡ None
not_bare setting.Workers value = refl
not_bare setting.Lanes value = refl
not_bare setting.Modules value = refl
not_bare setting.Generated value = refl
not_bare setting.Seed value = refl

pub reads_joined : (s : Setting) (value : Bytes) (seen : Seen) → reading.joined (name_of s ++ (61 ∷ value)) seen ≡ option_and_then (λ n. put s n seen) (number_of value)
reads_joined setting.Workers value seen = refl
reads_joined setting.Lanes value seen = refl
reads_joined setting.Modules value seen = refl
reads_joined setting.Generated value seen = refl
reads_joined setting.Seed value seen = refl

-- ---- a word cut at its first `=`

abbrev IsCut : Bytes → ℕ → ℕ → Type 0
IsCut word i k = (j : ℕ) × (k ≡ i + j) × (take j word ++ (61 ∷ drop (suc j) word) ≡ word)

cut_later : (b : ℕ) (word : Bytes) (i k : ℕ) → IsCut word (i + 1) k → IsCut (b ∷ word) i k
cut_later b word i k is = (suc is.0, omega (arith, is.1), ap (λ l. b ∷ l) is.2)

pub is_cut : (word : Bytes) (i k : ℕ) → position_from (λ b. b == 61) i word ≡ Some k → IsCut word i k
is_cut [] i k is = absurd (none-some k is)
is_cut (b ∷ word) i k is = elim (cases_Bool (b == 61)) [
  | inl at ↦ (0, omega (arith, same_Some i k (sym (ap (λ c. cond c (Some i) (position_from (λ b. b == 61) (i + 1) word)) at) ∙ is)), ap (λ c. c ∷ word) (sym (eqb-true b 61 at)))
  | inr not ↦ cut_later b word i k (is_cut word (i + 1) k (sym (ap (λ c. cond c (Some i) (position_from (λ b. b == 61) (i + 1) word)) not) ∙ is))
]

-- ---- numbers

pub is_number : (value : Bytes) (n : ℕ) → number_of value ≡ Some n → IsDigits value × (n ≡ digits_value 10 value)
is_number value n is = elim (cases_Bool (is_numeral value)) [
  | inl holds ↦ (are_digits value holds, sym (same_Some (digits_value 10 value) n (sym (ap (λ b. if b then Some (digits_value 10 value) else None) holds) ∙ is)))
  | inr fails ↦ absurd (none-some n (sym (ap (λ b. if b then Some (digits_value 10 value) else None) fails) ∙ is))
]

all_of : (a b c : Bool) → a ≡ true → b ≡ true → c ≡ true → (a && (b && c)) ≡ true
all_of a b c x y z = cc

pub number : (value : Bytes) → IsDigits value → number_of value ≡ Some (digits_value 10 value)
number value is = ap (λ b. if b then Some (digits_value 10 value) else None)
    (all_of _ _ _ (le-leb 1 (length value) (omega (arith, is.0.0))) (le-leb (length value) 20 is.1) ((numerals_by_value _ tells_all_ascii_digits).from value is.0.1))

-- ---- a piece

pub told_joined : (s : Setting) (value : Bytes) (place : ℕ) (what : Told) → number_told s (digits_value 10 value) what ≡ told_by what place (joined s value)
told_joined s value place the_root = refl
told_joined s value place (the t) = refl

pub told_apart : (s : Setting) (value : Bytes) (place : ℕ) (what : Told) → number_told s (digits_value 10 value) what ≡ told_by what place (apart s value)
told_apart s value place the_root = refl
told_apart s value place (the t) = refl

pub told_root : (word : Bytes) (place : ℕ) (what : Told) → root_told place what ≡ told_by what place (root word)
told_root word place the_root = refl
told_root word place (the t) = refl
