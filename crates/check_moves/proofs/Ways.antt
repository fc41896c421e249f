-- What ways are, in the words of the definition of typing.
use Rattle.std.proofs.Common.{◌≡◌, Option, Some, None, refl, sym, ap, ◌∙◌}
use Rattle.type_values.specs.declared.types.FlowType.{FlowType}
use Rattle.flow_facts.specs.Known.{Known, joined}
use Rattle.refine_flow.specs.declared.facts.Facts.{Facts}
use Rattle.refine_flow.specs.Standing.{known}
use Rattle.check_world.specs.View.{notes_view}
use Rattle.typing.specs.States.{Notes, Out, no_of as falsy, after}
use Rattle.fact_ways.specs.declared.fork.Fork.{Fork}
use Rattle.fact_ways.specs.Ways.{yes_of, no_of}
use Rattle.check_moves.specs.declared.state.State.{State}
use Rattle.check_moves.specs.declared.state.Read.{Read}
use Rattle.check_moves.specs.View.{now, told}

-- what was read, with these ways
abbrev pub read_out : FlowType → Option Fork → Facts → Notes → Out
read_out ty fork f n = record { ty = ty; yes = yes_of fork f; no = no_of fork f; notes = n }

-- where it is falsy the facts are as they stand
pub falsy_here : (ty : FlowType) (fork : Option Fork) (f : Facts) (n : Notes) → falsy (read_out ty fork f n) ≡ known f
falsy_here ty None f n = refl
falsy_here ty (Some k) f n = refl

-- both ways meet
pub after_both : (r : Read) (a b : State) → now b ≡ record (now a) { facts = joined (yes_of r.fork a.facts) (known a.facts) } → now b ≡ after (told r a)
unfolding told now
after_both r a b is =
    is ∙ ap (λ (f : Known). record { facts = joined (yes_of r.fork a.facts) f; notes = notes_view a.notes }) (sym (falsy_here r.ty r.fork a.facts (notes_view a.notes)))
