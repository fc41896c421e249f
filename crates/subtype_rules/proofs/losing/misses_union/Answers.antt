use Rattle.std.proofs.Common.{◌≡◌, true, List, sym, ◌∙◌, subst}
use Rattle.std.specs.List.{list_all}
use Rattle.type_values.specs.declared.types.FlowType.{FlowType, out-FlowType}
use Rattle.subtyping.specs.Rows.{has_no_ways}
use Rattle.subtype_rules.proofs.Forms.{union_form}
use Rattle.subtype_rules.proofs.LostPairs.{misses_lost}
use Rattle.subtype_rules.proofs.losing.misses_union.Goals as goal

pub returns-in-Union : goal.returns-in-Union
returns-in-Union c = λ yes. misses_lost c.args.a.now c.args.b.now c.in-Union.all (union_form c.args.b.now c.in-Union.all c.in-Union.is) (sym c.does_open.ensures ∙ c.if-does_open.false) (sym c.is_free.ensures ∙ c.if-is_free.false)
    (subst (λ (l : List FlowType). list_all (λ y. has_no_ways (out-FlowType c.args.a.now) (out-FlowType y)) l ≡ true) c.as_slice.ensures (sym c.misses_each.ensures ∙ yes))
