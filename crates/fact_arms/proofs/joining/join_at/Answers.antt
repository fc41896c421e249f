use Rattle.std.proofs.Common.{◌≡◌, IfOk, Option, sym, subst}
use Rattle.std.specs.Option.{option_copied}
use Rattle.type_values.specs.declared.types.FlowType.{FlowType}
use Rattle.fact_trail.specs.Moments.{map_of}
use Rattle.flow_facts.specs.Known.{both}
use Rattle.fact_arms.specs.Differences.{over, type_of}
use Rattle.fact_arms.proofs.joining.join_at.Goals as goal

pub returns-clause-fact : goal.returns-clause-fact
returns-clause-fact c =
    let first : option_copied c.look.result ≡ over c.args.first.now (map_of c.args.trail.now) c.args.slot = c.look.ensures (map_of c.args.trail.now) (sym c.get.ensures) in
    subst (λ (t : Option FlowType). IfOk c.join_of_facts.result (λ fact. type_of fact ≡ t)) (λ i. both (type_of (first i)) (c.in_ok-other.ensures.fact i)) c.join_of_facts.ensures
