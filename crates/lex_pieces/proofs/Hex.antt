-- The number that hexadecimal digits spell, held back at the first number past all characters.
use Rattle.std.proofs.Common.{◌≡◌, ℕ, ◌+◌, ◌*◌, ◌<◌, ◌≤◌, min, Bool, true, false, cond, List, [], ◌∷◌, Option, Some, None, length, get_or, drop, refl, sym, ap, ◌∙◌, inl, inr, arith}
use Rattle.std.specs.List.{list_all, fold}
use Rattle.std.specs.Option.{SomeIff}
use Rattle.std.specs.Char.{digit_value, IsScalar}
use lib.Utf8.{scalar, scalar_cases}
use Rattle.std.proofs.lemmas.Bool.{cases_lt, false_from_ne_true, lt-ltb, le-ltb}
use Rattle.std.proofs.lemmas.List.{at_drop_more, at_drop_all}
use Rattle.lex_pieces.specs.Escapes.{is_hex, character}

abbrev pub step : ℕ → ℕ → ℕ
step high d = high * 16 + digit_value d

-- the character of these digits, behind those that spell `code`
abbrev pub behind : ℕ → List ℕ → Option ℕ
behind code ds = cond (list_all is_hex ds) (character (fold step code ds)) None

past : (code : ℕ) → 1114112 ≤ code → character code ≡ None
past code h = rw (false_from_ne_true (scalar code) never) refl
  where
    never : scalar code ≡ true → ⊥
    never t = elim (scalar_cases code t) [ inl low ↦ omega arith | inr high ↦ omega arith ]

grows : (code : ℕ) (ds : List ℕ) → code ≤ fold step code ds
grows code [] = omega arith
grows code (d ∷ ds) = omega (arith, grows (step code d) ds)

none_past : (code : ℕ) (ds : List ℕ) → 1114112 ≤ code → behind code ds ≡ None
none_past code ds h = rw (past (fold step code ds) (omega (arith, grows code ds))) (both (list_all is_hex ds) None)
  where
    both : (b : Bool) (o : Option ℕ) → cond b o o ≡ o
    both true o = refl
    both false o = refl

held : (code : ℕ) (ds : List ℕ) → behind (min code 1114112) ds ≡ behind code ds
held code ds =
    elim (cases_lt code 1114112) [
      | inl h ↦ ap (λ n. behind n ds) (omega arith)
      | inr h ↦ none_past (min code 1114112) ds (omega arith) ∙ sym (none_past code ds h)
    ]

pub more : (code i : ℕ) (ds : List ℕ) → i < length ds → digit_value (get_or ds i 0) < 16 →
    behind (min (code * 16 + digit_value (get_or ds i 0)) 1114112) (drop (i + 1) ds) ≡ behind code (drop i ds)
more code i ds l h =
    held (step code (get_or ds i 0)) (drop (i + 1) ds)
    ∙ sym (at_drop_more (behind code) ds i 0 l ∙ rw (lt-ltb (digit_value (get_or ds i 0)) 16 h) refl)

pub unread : (code i : ℕ) (ds : List ℕ) → i < length ds → 16 ≤ digit_value (get_or ds i 0) → behind code (drop i ds) ≡ None
unread code i ds l h = at_drop_more (behind code) ds i 0 l ∙ rw (le-ltb (digit_value (get_or ds i 0)) 16 h) refl

pub last : (code i : ℕ) (ds : List ℕ) → length ds ≤ i → behind code (drop i ds) ≡ character code
last code i ds h = at_drop_all (behind code) ds i h

pub made : (r : Option ℕ) (code : ℕ) → SomeIff r (IsScalar code) code → r ≡ character code
made None code wrong = rw (false_from_ne_true (scalar code) wrong) refl
made (Some c) code right = rw right.0 (ap Some right.1)

pub ruleset hex_steps = (more, unread, last, made)
