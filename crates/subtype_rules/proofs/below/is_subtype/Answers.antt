use Rattle.subtype_rules.proofs.Deciding.{told_below}
use Rattle.subtype_rules.proofs.below.is_subtype.Goals as goal

pub returns-clause-value : goal.returns-clause-value
returns-clause-value c = told_below c.args.table.now c.args.a.now c.args.b.now c.in_ok-yes.yes c.in_ok-yes.ensures
