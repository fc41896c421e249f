use Rattle.std.proofs.Common.{List, sym, ◌∙◌, subst}
use Rattle.type_values.specs.declared.types.FlowType.{FlowType}
use Rattle.subtype_rules.specs.Kept.{HasLost}
use Rattle.subtype_rules.proofs.Forms.{union_form}
use Rattle.subtype_rules.proofs.LostPairs.{loses_lost}
use Rattle.subtype_rules.proofs.losing.loses_member.Goals as goal

pub returns-in-Union : goal.returns-in-Union
returns-in-Union c = λ yes named. loses_lost c.args.a.now c.args.b.now c.in-Union.all (union_form c.args.a.now c.in-Union.all c.in-Union.is) (sym c.does_open.ensures ∙ c.if-does_open.false) (sym c.is_free.ensures ∙ c.if-is_free.false) named
    (subst (λ (l : List FlowType). HasLost named l c.args.b.now) c.as_slice.ensures (c.has_apart.ensures yes named))
