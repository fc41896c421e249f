use Rattle.std.proofs.Common.{◌≡◌, length}
use Rattle.recheck_merging.specs.Inner.{ArePlacesTo}
use Rattle.recheck_merging.proofs.planning.places_of.Given as goal

-- the places so far
abbrev pub invariant-loop-i : goal.invariant-loop-i
invariant-loop-i l = record {
  placed : ArePlacesTo l.numbers l.i l.places.items;
  many : length l.places.items ≡ l.count;
}
