use Rattle.std.proofs.Common.{◌≡◌, ℕ, ◌<◌}
use Rattle.source_place.specs.Place.{line_at, column_at}
use Rattle.byte_places.specs.Places.{StandsAt}
use Rattle.byte_places.proofs.places.byte_place.Given as goal

abbrev pub invariant-loop-i : goal.invariant-loop-i
invariant-loop-i l = record {
  line : l.in_line ≡ line_at l.text l.i;
  column : l.in_column ≡ column_at l.text l.i;
  before : (k : ℕ) → k < l.i → StandsAt l.text l.line l.column k → ⊥;
}
