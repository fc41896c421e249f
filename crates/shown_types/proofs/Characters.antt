-- A character stands at a line and a column, or none does.
use Rattle.std.proofs.Common.{◌≡◌, ℕ, zero, suc, ◌+◌, ◌<◌, length, get_or, sym, ◌∙◌, inl, inr, ◌⊎◌, arith}
use Rattle.std.proofs.lemmas.Bool.{cases_Bool, cases_lt, false≢true}
use Rattle.source_characters.specs.Bytes.{begins_char}
use Rattle.source_place.specs.Place.{Bytes, line_at, column_at}
use Rattle.byte_places.specs.Places.{StandsAt}
use Rattle.byte_places.proofs.Behind.{only_one, none_so_far}

abbrev OrNot : Type 0 → Type 0
OrNot P = P ⊎ (P → ⊥)

same_or_not : (a b : ℕ) → OrNot (a ≡ b)
same_or_not a b = elim (cases_lt a b) [
  | inl below ↦ inr (λ is. omega (arith, is, below))
  | inr other ↦ elim (cases_lt b a) [
    | inl above ↦ inr (λ is. omega (arith, is, above))
    | inr nor ↦ inl (omega (arith, other, nor))
  ]
]

stands_or_not : (text : Bytes) (line column at : ℕ) → at < length text → OrNot (StandsAt text line column at)
stands_or_not text line column at within = elim (cases_Bool (begins_char (get_or text at 0))) [
  | inr fails ↦ inr (λ stands. false≢true (sym fails ∙ stands.begins))
  | inl begins ↦ elim (same_or_not (line_at text at) line) [
    | inr other ↦ inr (λ stands. other stands.in_line)
    | inl in_line ↦ elim (same_or_not (column_at text at) column) [
      | inr other ↦ inr (λ stands. other stands.in_column)
      | inl in_column ↦ inl (record { within = within; begins = begins; in_line = in_line; in_column = in_column })
    ]
  ]
]

-- the byte of the character, or the fact that there is none
abbrev pub Character : Bytes → ℕ → ℕ → Type 0
Character text line column = ((at : ℕ) × StandsAt text line column at) ⊎ ((at : ℕ) → StandsAt text line column at → ⊥)

from : (text : Bytes) (line column left at : ℕ) → at + left ≡ length text → ((k : ℕ) → k < at → StandsAt text line column k → ⊥) → Character text line column
from text line column zero at end none = inr (λ k stands. none k (omega (arith, end, stands.within)) stands)
from text line column (suc left) at end none = elim (stands_or_not text line column at (omega (arith, end))) [
  | inl stands ↦ inl (at, stands)
  | inr never ↦ from text line column left (at + 1) (omega (arith, end)) (none_so_far text line column at never none)
]

pub character : (text : Bytes) (line column : ℕ) → Character text line column
character text line column = from text line column (length text) 0 (omega arith) (λ k below stands. absurd (omega (arith, below)))

-- and there is one at most
pub one_character : (text : Bytes) (line column i at : ℕ) → StandsAt text line column i → StandsAt text line column at → i ≡ at
one_character text line column i at stands also = elim (cases_lt i at) [
  | inl below ↦ absurd (only_one text line column i at stands also below)
  | inr other ↦ elim (cases_lt at i) [
    | inl above ↦ absurd (only_one text line column at i also stands above)
    | inr nor ↦ omega (arith, other, nor)
  ]
]
