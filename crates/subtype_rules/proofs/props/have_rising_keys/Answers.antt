use Rattle.std.proofs.Common.{rules}
use Rattle.std.specs.Ordering.{nat_cmp, is_lt}
use Rattle.std.specs.Cmp.Lexicographic.{slice_cmp}
use Rattle.std.proofs.lemmas.Fn.{always_returns_same}
use Rattle.flow_values.proofs.Rising.{rising_from_neighbours}
use Rattle.subtype_rules.proofs.props.have_rising_keys.Goals as goal

pub returns : goal.returns
returns c =
    rising_from_neighbours (λ p. p.key) c.args.props.now _
    (c.is_sorted_by.ensures.cases (λ p next. is_lt (slice_cmp nat_cmp p.key next.key)) (always_returns_same _ _ _ (λ a r g called. (search rules, search rules))))
