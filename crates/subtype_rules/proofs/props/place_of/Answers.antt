use Rattle.std.proofs.Common.{rules}
use Rattle.std.specs.Ordering.{nat_cmp}
use Rattle.std.specs.Cmp.Lexicographic.{slice_cmp}
use Rattle.std.proofs.lemmas.Fn.{always_returns_same}
use Rattle.subtype_rules.proofs.Searched.{searched}
use Rattle.subtype_rules.proofs.props.place_of.Goals as goal

pub returns : goal.returns
returns c =
    let facts = c.binary_search_by.ensures in
    let place = facts.position (λ p. slice_cmp nat_cmp p.key c.args.key.now) (always_returns_same _ _ _ (λ a r g called. (search rules, search rules))) in
    rw c.ok.ensures.value (searched c.args.props.now c.args.key.now c.requires c.binary_search_by.result facts.bound place)
