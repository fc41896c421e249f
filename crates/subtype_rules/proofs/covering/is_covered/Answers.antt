use Rattle.std.proofs.Common.{List, Contains, subst}
use Rattle.type_values.specs.declared.types.FlowType.{FlowType}
use Rattle.subtype_rules.proofs.Forms.{union_form}
use Rattle.subtype_rules.proofs.Covers.{covered_below}
use Rattle.subtype_rules.proofs.covering.is_covered.Goals as goal

pub returns-in_ok-yes-in-Union-Union : goal.returns-in_ok-yes-in-Union-Union
returns-in_ok-yes-in-Union-Union c = λ t. covered_below c.args.a.now c.args.b.now c.in-Union-Union.some c.in-Union-Union.all (union_form c.args.a.now c.in-Union-Union.some c.in-Union-Union.is-0) (union_form c.args.b.now c.in-Union-Union.all c.in-Union-Union.is-1)
    (subst (λ (l : List FlowType). (x : FlowType) → Contains c.in-Union-Union.some x → Contains l x) c.as_slice.ensures
    (subst (λ (l : List FlowType). (x : FlowType) → Contains l x → Contains c.as_slice.result.now x) c.as_slice-in-Union-Union.ensures (c.in_ok-yes-in-Union-Union.ensures t)))
