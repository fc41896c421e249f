use Rattle.subtype_rules.proofs.Steps.{lost_link}
use Rattle.subtype_rules.proofs.collecting.is_lost_link.Goals as goal

pub returns-in-Some-type_of : goal.returns-in-Some-type_of
returns-in-Some-type_of c = λ yes. lost_link c.args.types.now c.args.l c.in-Some.a.now c.in-Some-type_of.b.now c.in-Some.ensures c.in-Some-type_of.ensures (c.is_lost.ensures yes)
