-- Lines and columns, one byte after the other.
use Rattle.std.proofs.Common.{◌≡◌, ℕ, ◌+◌, ◌<◌, ◌≤◌, length, take, get_or, min, sym, ap, ◌∙◌, inl, inr, take_all, arith}
use Rattle.std.specs.List.{count_by}
use Rattle.std.proofs.lemmas.Bool.{cases_lt}
use Rattle.source_characters.specs.Bytes.{char_count}
use Rattle.source_place.specs.Place.{Bytes, is_feed, line_at, line_front, column_at}
use Rattle.byte_places.specs.Places.{line_behind, column_behind}
use Rattle.byte_places.proofs.Behind.{line_next, column_next, line_low, column_low}
use Rattle.check_values.specs.declared.faults.Fault.{Fault}
use Rattle.asks.specs.Places.{located}
use Rattle.asks.specs.declared.answer.Located.{Located}
use Rattle.error_places.specs.Places.{IsAt}
use Rattle.error_places.specs.declared.places.Place.{Place}

pub is_behind : (text : Bytes) (old new : Place) (byte : ℕ) → IsAt text old → old.at < length text → byte ≡ get_or text old.at 0 → new.at ≡ old.at + 1 → new.line ≡ line_behind old.line byte → new.column ≡ column_behind old.column byte → IsAt text new
is_behind text old new byte here more is at line column = record {
  within = omega (arith, at);
  in_line = line ∙ (λ j. line_behind (here.in_line j) (is j)) ∙ sym (line_next text old.at more) ∙ ap (line_at text) (sym at);
  in_column = column ∙ (λ j. column_behind (here.in_column j) (is j)) ∙ sym (column_next text old.at more) ∙ ap (column_at text) (sym at);
}

pub line_few : (text : Bytes) (place : Place) → IsAt text place → place.line ≤ place.at + 1
line_few text place here = omega (arith, here.in_line, line_low text place.at here.within)

pub column_few : (text : Bytes) (place : Place) → IsAt text place → place.column ≤ place.at + 1
column_few text place here = omega (arith, here.in_column, column_low text place.at here.within)

-- the place of a byte, or of the end
there : (text : Bytes) (here at : ℕ) → here ≡ min at (length text) → take here text ≡ take at text
there text here at is = elim (cases_lt at (length text)) [
  | inl low ↦ (let same : here ≡ at = omega (arith, is) in ap (λ (n : ℕ). take n text) same)
  | inr past ↦ take_all here text (omega (arith, is)) ∙ sym (take_all at text past)
]

pub line_there : (text : Bytes) (place : Place) (at end : ℕ) → IsAt text place → end ≡ min at (length text) → place.at ≤ end → end ≤ place.at → place.line ≡ line_at text at
line_there text place at end here is low high = here.in_line ∙ ap (λ (l : Bytes). count_by is_feed l + 1) (there text place.at at (omega (arith, is)))

pub column_there : (text : Bytes) (place : Place) (at end : ℕ) → IsAt text place → end ≡ min at (length text) → place.at ≤ end → end ≤ place.at → place.column ≡ column_at text at
column_there text place at end here is low high = here.in_column ∙ ap (λ (l : Bytes). char_count (line_front l) + 1) (there text place.at at (omega (arith, is)))

-- an error with the line and the column of its place is the one with its place
pub is_located : (path text : Bytes) (place : Place) (fault : Fault) (e : Located) → (e.path ≡ path) × (e.line ≡ place.line) × (e.column ≡ place.column) × (e.code ≡ fault.code) × (e.details ≡ fault.details)
    → place.line ≡ line_at text fault.span.start → place.column ≡ column_at text fault.span.start → e ≡ located path text fault
is_located path text place fault e is line column =
    let in_line = is.1 ∙ line in
    let in_column = is.2 ∙ column in
    λ i. record { path = is.0 i; line = in_line i; column = in_column i; code = is.3 i; details = is.4 i }
