use Rattle.std.proofs.Common.{◌≤◌, ◌-◌}
use Rattle.error_places.specs.Places.{IsAt}
use Rattle.error_places.proofs.places.locate.Given as goal

abbrev pub invariant-loop-place : goal.invariant-loop-place
invariant-loop-place l = record {
  here : IsAt l.text l.place;
  within : l.place.at ≤ l.end;
}

abbrev pub decreases-loop-place : goal.decreases-loop-place
decreases-loop-place l = l.end - l.place.at
