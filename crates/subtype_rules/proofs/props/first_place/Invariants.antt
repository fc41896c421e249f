use Rattle.std.proofs.Common.{◌≡◌, drop}
use Rattle.subtype_rules.specs.Terms.{place_from, place_at}
use Rattle.subtype_rules.proofs.props.first_place.Given as goal

abbrev pub invariant-loop-i : goal.invariant-loop-i
invariant-loop-i l = place_at l.props l.key ≡ place_from l.i (drop l.i l.props) l.key
