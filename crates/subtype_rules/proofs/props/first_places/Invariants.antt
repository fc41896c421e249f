use Rattle.std.proofs.Common.{◌≡◌, ◌≤◌, ℕ, List, drop, length}
use Rattle.subtype_rules.specs.Terms.{place_from}
use Rattle.subtype_rules.specs.Firsts.{place_in}
use Rattle.subtype_rules.proofs.props.first_places.Given as goal

abbrev pub invariant-loop-i : goal.invariant-loop-i
invariant-loop-i l = record {
  within : l.i ≤ length l.props;
  firsts : (key : List ℕ) → place_in l.places key ≡ place_from l.i (drop l.i l.props) key;
}

abbrev pub decreases-loop-i : goal.decreases-loop-i
decreases-loop-i l = l.i
