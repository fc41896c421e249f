use Rattle.std.proofs.Common.{◌≡◌, ℕ, ◌<◌, ◌≤◌, List, length, get_or, slice_get, Option, Some, None, refl, sym, ◌∙◌}
use Rattle.std.specs.Borrow.{Bor}
use Rattle.std.specs.List.{HoldsAt}
use Rattle.std.specs.Option.{IfSome, MatchOption, option_copied}
use Rattle.std.proofs.lemmas.Option.{slice_get_past, slice_get_read}
use Rattle.type_values.specs.declared.types.FlowProp.{FlowProp}
use Rattle.literal_reads.proofs.PropPlaces.{prop_at_place}
use Rattle.literal_reads.proofs.candidate.Candidate.prop.Goals as goal

-- what `get` gives is what stands at the place
got : (props : List FlowProp) (i : ℕ) (found : Option (Bor FlowProp)) → IfSome found (λ x. x.now ≡ get_or props i x.now) → MatchOption found (length props ≤ i) (λ x. (i < length props) × HoldsAt (λ y. x.now ≡ y) props i) →
    option_copied found ≡ slice_get props i
got props i None is within = sym (slice_get_past props i within)
got props i (Some x) is within = sym (slice_get_read props (length props) i x.now refl within.0 is)

pub returns-in-Some : goal.returns-in-Some
returns-in-Some c =
    got c.args.self.now.props.now c.in-Some.i.now c.get-in-Some.result c.get-in-Some.ensures.lookup.1 c.get-in-Some.ensures.lookup.3
    ∙ prop_at_place c.args.self.now.places c.args.self.now.props.now c.args.key.now c.in-Some.i.now c.args.self.now.placed (sym c.in-Some.ensures.value)
