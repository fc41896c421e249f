use Rattle.std.proofs.Common.{◌≡◌, take}
use Rattle.asks.specs.Places.{errors_at}
use Rattle.error_places.specs.Places.{IsAt}
use Rattle.error_places.proofs.locating.locate_errors.Given as goal

abbrev pub invariant-loop-i : goal.invariant-loop-i
invariant-loop-i l = record {
  so_far : l.errors.items ≡ errors_at l.path l.text (take l.i l.faults);
  here : IsAt l.text l.known;
}
